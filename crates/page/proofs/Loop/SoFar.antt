-- Where a run stands: the commands so far, and that the rest of them, from here, does what is still to do.
use Rattle.std.proofs.Common.{◌≡◌, ℕ, suc, ◌+◌, ◌-◌, ◌≤◌, ◌<◌, ◌%◌, Bool, true, cond, List, [], ◌∷◌, ◌++◌, length, drop, None, Ok, Err, refl, sym, ap, subst, ◌∙◌, arith, ltb, ltb-false, eqb}
use mathlib.Core.List.{append_assoc, append-nil}
use mathlib.Core.Bool.{false}
use lib.ListN.{length-append}
use native.Mathlib.Nat.{sub-zero}
use Rattle.protocol.specs.Form.{Form}
use Rattle.protocol.specs.State.{State}
use Rattle.protocol.specs.Outcome.{entry}
use Rattle.protocol.specs.Command.{command, decode}
use Rattle.protocol.specs.Step.{Answer as ProtocolAnswer, refused, done, carry}
use Rattle.protocol.specs.Allowed.{allowed}
use Rattle.protocol.specs.Memory.{Memory, stored}
use Rattle.protocol.specs.Load.{load}
use Rattle.protocol.specs.Run.{Event, Execution, Run, Ran as ProtocolRan, prepend, stop, answered, in_memory, run, logged, log_after}
use Rattle.protocol.specs.declared.Command.{Command}
use Rattle.protocol.specs.Outcome.{Ending}
use Rattle.protocol.specs.declared.Outcome.{Outcome}
use Rattle.protocol.specs.declared.Refusal.TheVariants.{LogFull, UnknownCommand}
use Rattle.protocol.proofs.Log.Fits.{length-log_after}
use Rattle.protocol.proofs.Memory.Sized.{Sized}
use Rattle.protocol.proofs.Memory.Stored.{load_stored, stored-load, stored-valid, stored-lengths, load_sized, valid-parts}
use Rattle.protocol.proofs.Allowed.Carry.{carry-kept}
use Rattle.protocol.proofs.Runs.Decode.{Front, decode-front}
use Rattle.protocol.proofs.Runs.Fuel.{full, full-command, full-over, full-unknown}
use Rattle.protocol.proofs.Runs.OnMemory.{run-started}
use Rattle.codec.specs.Entry.{Added, added, overlay}
use Rattle.codec.proofs.Next.{Next, rest_at}
use Rattle.codec.proofs.Logs.{logged-snoc, log-grows}
use Rattle.codec.proofs.Puts.{put-fits, put-nothing}
use Rattle.page.specs.Carry.{Ready, after, on_answer}
use Rattle.page.specs.Calls.{bytes_of, ran_lent, ran_of, run_lent, ran_as}
use Rattle.page.specs.Runs.{Acted, acted, entered, act_lent, WentOn}
use Rattle.codec.specs.Decode.{took, taken}
use Rattle.page.proofs.Loop.Taken.{none-taken, taken_next}
use Rattle.codec.proofs.Told.{told-none}

-- some commands carried out, and then the rest
abbrev pub behind : List Event → Execution → Execution
behind es x = record { state = x.state; events = es ++ x.events; ending = x.ending }

-- commands s were handed over with memory L₀ and this log; some of them are carried out
pub record SoFar
    (F : Form)
    (S s : List ℕ)
    (L₀ : Memory)
    (log₀ : List ℕ)
    (left : List ℕ)
    (count written : ℕ)
    (L : Memory)
    (log : List ℕ)
    : Type 0 where
  pub events : List Event
  pub ready : Ready F S L
  pub counted : count ≡ length events
  pub took : length s - length left ≡ bytes_of (length events) s
  pub there : drop (length s - length left) s ≡ left
  pub each : count + length left ≤ length s
  pub bytes : written ≡ length (logged events)
  pub fits : written ≤ length log₀
  pub wrote : log ≡ log_after events log₀
  pub rest : full F S (length log₀) (load F L₀) s ≡ behind events (full F S (length log₀ - written) (load F L) left)

module _ (F : Form) (S s : List ℕ) (L₀ : Memory) (log₀ : List ℕ) where
  abbrev Here : List ℕ → ℕ → ℕ → Memory → List ℕ → Type 0
  Here = SoFar F S s L₀ log₀

  pub so-first : Ready F S L₀ → Here s 0 0 L₀ log₀
  so-first ready =
      let none : length s - length s ≡ 0 = omega arith in
      record {
        events = [];
        ready = ready;
        counted = refl;
        took = none ∙ none-taken s;
        there = rw none refl;
        each = omega arith;
        bytes = refl;
        fits = omega arith;
        wrote = refl;
        rest = ap (λ k. full F S k (load F L₀) s) (sym (sub-zero (length log₀)));
      }

  module _ {left : List ℕ} {count written : ℕ} {L : Memory} {log : List ℕ} (so : Here left count written L log) where
    abbrev σ : State
    σ = load F L

    abbrev room : ℕ
    room = length log₀ - written

    same_log : length log ≡ length log₀
    same_log = ap length so.wrote ∙ length-log_after so.events log₀ (omega (arith, so.bytes, so.fits))

    -- A COMMAND
    module _ (x : Command) (t : List ℕ) (e : decode left ≡ command x t) where
      -- what it leaves
      abbrev pub Turn : Ending → Memory → Added → Type 0
      Turn (Ok u) N g = (Here t (count + 1) g.at N g.log) × (length t < length left)
      Turn (Err why) N g =
          (Here left count g.at N g.log) × (full F S (length log₀ - g.at) (load F N) left ≡ stop (load F N) (Err why))

      abbrev Law : Acted → Type 0
      Law y = Turn y.ending y.memory y.log

      module _ (σ' : State) (o : Outcome) (c : carry F S σ x ≡ done σ' o) (enough : length (entry o) ≤ room)
          (q : full F S room σ left ≡ prepend (record { after = σ'; outcome = o }) (full F S (room - length (entry o)) σ' t)) where
        abbrev event : Event
        event = record { after = σ'; outcome = o }

        abbrev es : List Event
        es = so.events

        abbrev written' : ℕ
        written' = written + length (entry o)

        kept : Sized F σ' × (allowed F S σ' ≡ true)
        kept = carry-kept F S σ x so.ready.good (load_sized F L so.ready.lengths) (valid-parts F S L so.ready.valid).0 σ' o c

        back : load F (stored F σ') ≡ σ'
        back = load_stored F S σ' so.ready.good kept.0 kept.1

        one : length (es ++ (event ∷ [])) ≡ suc (length es)
        one = length-append es (event ∷ []) ∙ omega arith

        less : room - length (entry o) ≡ length log₀ - written'
        less = omega (arith, so.fits)

        front : Front left x t
        front = decode-front left x t e

        long : length left ≡ length front.bytes + length t
        long = ap length front.split ∙ length-append front.bytes t

        place : (length s - length t ≡ length s - length left + length front.bytes) × (drop (length s - length t) s ≡ t)
        place = rest_at s (length s - length left) front.bytes t (omega arith) (so.there ∙ front.split)

        fewer : length t < length left
        fewer = omega (arith, long, front.some)

        next : Next s (length s - length left) x (length s - length t)
        next = record {
          later = omega (arith, place.0, front.some);
          inside = omega arith;
          meant = ap decode so.there ∙ e ∙ ap (command x) (sym place.1);
        }

        further : Here t (count + 1) written' (stored F σ') (overlay log written (entry o))
        further = record {
          events = es ++ (event ∷ []);
          ready = record {
            good = so.ready.good;
            lengths = stored-lengths F σ' kept.0;
            valid = stored-valid F S σ' so.ready.good kept.0 kept.1;
          };
          counted = omega (arith, one, so.counted);
          took = taken_next (length es) s (length s - length left) so.took next ∙ ap (λ k. bytes_of k s) (sym one);
          there = place.1;
          each = omega (arith, so.each, fewer);
          bytes = omega (arith, so.bytes, ap length (logged-snoc es event), length-append (logged es) (entry o));
          fits = omega (arith, so.fits, enough);
          wrote =
              ap (λ (l : List ℕ). overlay l written (entry o)) so.wrote
              ∙ ap (λ n. overlay (log_after es log₀) n (entry o)) so.bytes
              ∙ log-grows es event log₀;
          rest =
              so.rest
              ∙ ap (behind es) q
              ∙ (let x : Execution = full F S (room - length (entry o)) σ' t in
              ap (λ (l : List Event). record { state = x.state; events = l; ending = x.ending })
              (sym (append_assoc es (event ∷ []) x.events)))
              ∙ ap (λ (σ : State). behind (es ++ (event ∷ [])) (full F S (room - length (entry o)) σ t)) (sym back)
              ∙ ap (λ r. behind (es ++ (event ∷ [])) (full F S r (load F (stored F σ')) t)) less;
        }

        went_on : Law (entered (added log written) (after (Ok o) (stored F σ')))
        went_on =
            let inside : written' ≤ length log = omega (arith, same_log, enough, so.fits) in
            rw (put-fits log written o inside) (further, fewer)

      on-answer :
          (a : ProtocolAnswer) → carry F S σ x ≡ a → full F S room σ left ≡ answered (full F S) room σ t a →
          Law (entered (added log written) (on_answer F room L a))
      unfolding on_answer answered
      on-answer (refused why) c q = (so, q)
      on-answer (done σ' o) c q = go (ltb room (length (entry o))) refl q
        where
          go :
              (t? : Bool) → ltb room (length (entry o)) ≡ t? →
              full F S room σ left
              ≡ cond t? (stop σ (Err LogFull))
              (prepend (record { after = σ'; outcome = o }) (full F S (room - length (entry o)) σ' t)) →
              Law (entered (added log written) (cond t? (after (Err LogFull) L) (after (Ok o) (stored F σ'))))
          go true f q = (so, q)
          go false f q = went_on σ' o c (ltb-false room (length (entry o)) f) q

      pub so-turn :
          (r : Ending) (N : Memory) (g : Added) → acted r N g ≡ act_lent F S L (added log written) x →
          Turn r N g
      so-turn r N g k =
          let same : length log - written ≡ room = ap (λ n. n - written) same_log in
          subst Law (sym (rw same at k)) (on-answer (carry F S σ x) refl (full-command F S room σ left x t e))

    -- a step that ends nothing makes no entry
    pub so-on :
        (rest : List ℕ) (N : Memory) → WentOn F S left rest L N →
        (Here rest (count + 1) written N log) × (length rest < length left)
    so-on rest N went =
        so-turn went.this rest went.says (Ok tt) N (added log written)
        (ap (acted (Ok tt) N) (sym (put-nothing log written))
        ∙ ap (entered (added log written)) (went.goes (length log - written)))

    -- what was not done leaves all
    pub so-stays : (N : Memory) → N ≡ L → Here left count written N log
    so-stays N e = subst (λ (M : Memory). Here left count written M log) (sym e) so

    -- THE END
    pub so-ends :
        eqb (length S % F.n) 0 ≡ true → Ready F S L₀ → (r : Ending) →
        full F S room (load F L) left ≡ stop (load F L) r →
        ran_lent (ran_as r count (length s - length left) written) L log ≡ run_lent F S L₀ s log₀
    unfolding run_lent
    so-ends whole ready r q =
        let es : List Event = so.events in
        let given : Run = record { given = s; log = log₀ } in
        let over : full F S (length log₀) (load F L₀) s ≡ record { state = load F L; events = es; ending = r } =
        so.rest
        ∙ ap (behind es) q
        ∙ ap (λ (l : List Event). record { state = load F L; events = l; ending = r }) (append-nil es)
        in
        let ran : run F S L₀ given ≡ record { memory = L; events = es; ending = r } =
        run-started F S L₀ given (record { form = ready.good; lengths = ready.lengths; lent = whole; state = ready.valid })
        ∙ ap (in_memory F) over
        ∙ ap (λ (N : Memory). record { memory = N; events = es; ending = r })
        (stored-load F S L so.ready.lengths so.ready.valid)
        in
        (λ i.
        ran_lent
        (record { done = so.counted i; taken = so.took i; written = so.bytes i; ending = r })
        L (so.wrote i))
        ∙ sym (ap (λ (x : ProtocolRan).
        ran_lent (ran_of s x.events x.ending) x.memory (log_after x.events log₀)) ran)

    pub so-over : length left ≡ 0 → full F S room (load F L) left ≡ stop (load F L) (Ok tt)
    so-over h = go left h
      where
        go : (l : List ℕ) → length l ≡ 0 → full F S room (load F L) l ≡ stop (load F L) (Ok tt)
        go [] h = full-over F S room (load F L)
        go (x ∷ l) h = absurd (omega (arith, h))

    pub so-unknown :
        (rest : List ℕ) → took None rest ≡ taken (decode left) left → eqb (length left) 0 ≡ false →
        full F S room (load F L) left ≡ stop (load F L) (Err UnknownCommand)
    so-unknown rest e some = full-unknown F S room (load F L) left (told-none left rest some e)
