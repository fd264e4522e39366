-- A header's form, cut off part by part.
use Rattle.std.proofs.Common.{◌≡◌, refl, sym, ap, ◌∙◌, ℕ, zero, suc, ◌+◌, ◌*◌, ◌-◌, ◌≤◌, ◌<◌, List, ◌∷◌, length, length-drop, get_or, take, drop, map, true, arith}
use Rattle.std.proofs.lemmas.List.{drop-drop, get_or-drop, take_rest}
use Rattle.std.specs.List.{IsSplitAt}
use Rattle.radix.specs.Digits.{of_bytes}
use Rattle.protocol.specs.Lists.{range}
use Rattle.protocol.specs.Form.{Form, form_of, good_form}
use Rattle.codec.proofs.Bytes.{two_bytes, part-part}
use Rattle.report.specs.Header.{number, places, form_end, form_in, header_in, record_at, records_at, commands_at}
use Rattle.report.specs.Seen.{parts_size, PartsOf}
use Rattle.report.specs.declared.header.Parts.{Parts}

map-range : (f g : ℕ → ℕ) (a n : ℕ) → ((i : ℕ) → i < a + n → f i ≡ g i) → map f (range a n) ≡ map g (range a n)
map-range f g a zero h = refl
map-range f g a (suc n) h =
    λ j. h a (omega arith) j ∷ map-range f g (suc a) n (λ i l. h i (omega arith)) j

-- the input ends within the bases, or within the six bytes after them
module _ (s : List ℕ) {m : ℕ} (same : m ≡ places s) (some : 1 ≤ length s) where
  after-long : length (take (length s - 1) (drop 1 s)) + 1 ≡ length s
  after-long = omega (arith, ap (length {A = ℕ}) (take_rest s 1), length-drop 1 s)

  pub bases-cut : length (take (length s - 1) (drop 1 s)) < 2 * m → length s < form_end s
  bases-cut h = omega (arith, after-long)

  pub six-cut : {listed f : List ℕ} → IsSplitAt (take (length s - 1) (drop 1 s)) (2 * m) listed f → length f < 6 → length s < form_end s
  six-cut h l = omega (arith, after-long, h.4)

-- the bases are cut off, and the six bytes after them are there
pub record Begun (s : List ℕ) (m : ℕ) (listed f : List ℕ) : Type 0 where
  pub same : m ≡ places s
  pub some : 1 ≤ length s
  pub split : IsSplitAt (take (length s - 1) (drop 1 s)) (2 * m) listed f
  pub six : 6 ≤ length f

pub begun :
    {s : List ℕ} {m : ℕ} {listed f : List ℕ} → m ≡ places s → 1 ≤ length s →
    IsSplitAt (take (length s - 1) (drop 1 s)) (2 * m) listed f → 6 ≤ length f → Begun s m listed f
begun same some split six = record { same = same; some = some; split = split; six = six }

-- the input's form is good if the one that was read passed the test
pub good-read : {F G : Form} → true ≡ good_form F → F ≡ G → good_form G ≡ true
good-read good form = sym (good ∙ ap good_form form)

module _ {s : List ℕ} {m : ℕ} {listed f : List ℕ} (v : Begun s m listed f) where
  f-is : f ≡ drop (1 + 2 * m) s
  f-is = v.split.2 ∙ ap (drop (2 * m)) (take_rest s 1) ∙ drop-drop (2 * m) 1 s

  f-long : length f + 1 + 2 * m ≡ length s
  f-long = omega (arith, v.split.4, ap (length {A = ℕ}) (take_rest s 1), length-drop 1 s, v.some)

  listed-is : listed ≡ take (2 * m) (drop 1 s)
  listed-is = v.split.1 ∙ ap (take (2 * m)) (take_rest s 1)

  pub ends : form_end s ≤ length s
  ends = omega (arith, f-long, v.same, v.six)

  at : (k : ℕ) {j : ℕ} → j ≡ 1 + 2 * m + k → get_or f k 0 ≡ get_or s j 0
  at k e = ap (λ l. get_or l k 0) f-is ∙ get_or-drop (1 + 2 * m) s k 0 ∙ ap (λ j. get_or s j 0) (sym e)

  two_at : (k : ℕ) → k + 2 ≤ length f → {j : ℕ} → j ≡ 1 + 2 * m + k → get_or f k 0 * 256 + get_or f (k + 1) 0 ≡ number 2 j s
  two_at k l e =
      sym (two_bytes f k l)
      ∙ ap (λ l. of_bytes (take 2 (drop k l))) f-is
      ∙ ap (λ l. of_bytes (take 2 l)) (drop-drop k (1 + 2 * m) s)
      ∙ ap (λ j. number 2 j s) (sym e)

  bases-are : map (λ i. number 2 (2 * i) listed) (range 0 m) ≡ (form_in s).bases
  bases-are =
      map-range (λ i. number 2 (2 * i) listed) (λ i. number 2 (1 + 2 * i) s) 0 m
      (λ i l. ap (number 2 (2 * i)) listed-is ∙ ap of_bytes (part-part s 1 (2 * m) (2 * i) 2 (omega arith)))
      ∙ ap (λ m. map (λ i. number 2 (1 + 2 * i) s) (range 0 m)) v.same

  pub n-is : {n : ℕ} → n ≡ get_or f 3 0 * 256 + get_or f 4 0 → n ≡ (form_in s).n
  n-is d = d ∙ two_at 3 (omega (arith, v.six)) (omega (arith, v.same))

  pub form-is :
      {bs : List ℕ} {q base n readers : ℕ} → bs ≡ map (λ i. number 2 (2 * i) listed) (range 0 m) →
      q ≡ get_or f 0 0 → base ≡ get_or f 1 0 * 256 + get_or f 2 0 → n ≡ get_or f 3 0 * 256 + get_or f 4 0 → readers ≡ get_or f 5 0 →
      form_of bs (record { q = q; base = base; layout = 0; n = n; readers = readers }) ≡ form_in s
  form-is a b c d e =
      let bases = a ∙ bases-are in
      let q = b ∙ at 0 {j = 1 + 2 * places s} (omega (arith, v.same)) in
      let base = c ∙ two_at 1 (omega (arith, v.six)) {j = 2 + 2 * places s} (omega (arith, v.same)) in
      let n = n-is d in
      let readers = e ∙ at 5 {j = 6 + 2 * places s} (omega (arith, v.same)) in
      λ i. record { bases = bases i; shared = 0; q = q i; base = base i; n = n i; readers = readers i }

  -- what follows the form
  rest-is : take (length f - 6) (drop 6 f) ≡ drop (form_end s) s
  rest-is =
      let e : 1 + 2 * m + 6 ≡ form_end s = omega (arith, v.same) in
      take_rest f 6 ∙ ap (drop 6) f-is ∙ drop-drop 6 (1 + 2 * m) s ∙ ap (λ k. drop k s) e

  rest-long : length (take (length f - 6) (drop 6 f)) + form_end s ≡ length s
  rest-long = omega (arith, ap (length {A = ℕ}) (take_rest f 6), length-drop 6 f, f-long, v.same, v.six)

  number-is : (k a : ℕ) {j : ℕ} → form_end s + a ≡ j → number k a (take (length f - 6) (drop 6 f)) ≡ number k j s
  number-is k a e =
      ap (number k a) rest-is
      ∙ ap (λ l. of_bytes (take k l)) (drop-drop a (form_end s) s)
      ∙ ap (λ j. number k j s) e

  module _ {n : ℕ} (same : n ≡ (form_in s).n) where
    records-long : number 2 (8 + n) (take (length f - 6) (drop 6 f)) ≡ number 2 (record_at s + (form_in s).n) s
    records-long = number-is 2 (8 + n) (omega (arith, same))

    size-is : form_end s + parts_size n (take (length f - 6) (drop 6 f)) ≡ commands_at s
    size-is =
        let e : form_end s + (8 + n + 2 + number 2 (record_at s + (form_in s).n) s * n)
        ≡ records_at s + number 2 (record_at s + (form_in s).n) s * n = omega (arith, same) in
        ap (λ k. form_end s + (8 + n + 2 + k * n)) records-long ∙ e
        ∙ ap (λ n. records_at s + number 2 (record_at s + (form_in s).n) s * n) same

    pub too_short : length (take (length f - 6) (drop 6 f)) < parts_size n (take (length f - 6) (drop 6 f)) → length s < commands_at s
    too_short h = omega (arith, rest-long, size-is)

    module _ {p : Parts} (w : PartsOf n (take (length f - 6) (drop 6 f)) p) where
      pub count-is : p.count.0 ≡ (header_in s).count.0
      count-is = w.count ∙ number-is 8 0 (omega arith)

      pub commands-are : length s - length p.commands.now ≡ commands_at s
      commands-are = omega (arith, rest-long, size-is, w.fits)

      pub all : commands_at s ≤ length s
      all = omega (arith, rest-long, size-is, w.fits)

      pub first-is : p.first.now ≡ (header_in s).first
      first-is =
          w.first
          ∙ ap (λ l. take n (drop 8 l)) rest-is
          ∙ ap (take n) (drop-drop 8 (form_end s) s)
          ∙ ap (λ n. take n (drop (record_at s) s)) same

      pub records-are : p.records.now ≡ (header_in s).records
      records-are =
          let e : form_end s + (8 + n + 2) ≡ records_at s = omega (arith, same) in
          w.records
          ∙ ap (λ k. take (k * n) (drop (8 + n + 2) (take (length f - 6) (drop 6 f)))) records-long
          ∙ ap (λ l. take (number 2 (record_at s + (form_in s).n) s * n) (drop (8 + n + 2) l)) rest-is
          ∙ ap (take (number 2 (record_at s + (form_in s).n) s * n))
          (drop-drop (8 + n + 2) (form_end s) s ∙ ap (λ k. drop k s) e)
          ∙ ap (λ n. take (number 2 (record_at s + (form_in s).n) s * n) (drop (records_at s) s)) same
