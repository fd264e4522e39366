-- The protocol's form of a form that the code has in hand.
use Rattle.protocol.specs.Form as P
use Rattle.checks.specs.declared.form.Form.{Form}

abbrev pub shape : Form → P.Form
shape f = P.form_of f.bases.now f.format
