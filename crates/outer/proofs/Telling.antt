-- What the step one block out answers is truthful.
-- Assumes nothing.
use mathlib.Core.Path.{◌≡◌, refl, ap, ◌∙◌}
use mathlib.Core.Bool.{Bool, true, false, cond}
use mathlib.Core.List.{List, [], ◌∷◌}
use Prim.Native.Nat.{ℕ}
use lib.ListN.{length}
use Rattle.sheet.specs.Format.{Bytes}
use Rattle.sheet.specs.Format as sheet
use Rattle.sheet.specs.Check.{Answer, refused, Test, answer}
use Rattle.sheet.specs.Operations.{write}
use Rattle.sheet.specs.Outer.{Copied, outer_tests, outer_call, outer_answer}
use Rattle.sheet.specs.Truthful.{truth_of, TruthfulSheet}
use Rattle.sheet.proofs.Truthful.{outer_truthful}
use Rattle.rows.specs.Formats.{format_of}
use Rattle.rows.specs.declared.Format.{Format}
use Rattle.rows.proofs.Limits.{sound}
use Rattle.outer.specs.Answers.{OuterWritten, lengths, length_alone, outer_written}

lengths_answer : (ts : List Test) (c : Copied) → lengths (answer ts c) ≡ answer ts c.new_length
unfolding answer
lengths_answer [] c = refl
lengths_answer (t ∷ ts) c = by t.fails (lengths_answer ts c)
  where
    by : (m : Bool) → lengths (answer ts c) ≡ answer ts c.new_length
        → lengths (cond m (refused t.number t.place) (answer ts c)) ≡ cond m (refused t.number t.place) (answer ts c.new_length)
    by true e = refl
    by false e = e

pub alone_is : (F : sheet.Format) (b : Bytes) (x : ℕ) (out : Bytes) → length_alone (outer_written F b x out) ≡ outer_call F b x out
unfolding outer_answer outer_call write
alone_is F b x out =
    ap (λ (a : Answer ℕ). record { answer = a; output = (outer_call F b x out).output }) (lengths_answer (outer_tests F b x (length out)) _)

pub outer_told : (f : Format) (b : Bytes) (x : ℕ) (out : Bytes) {w : OuterWritten} → w ≡ outer_written (format_of f) b x out
    → (w ≡ outer_written (format_of f) b x out) × TruthfulSheet (format_of f) (truth_of (format_of f) b) (length_alone w)
outer_told f b x out e =
    (e, outer_truthful (format_of f) (sound f) b x out (ap length_alone e ∙ alone_is (format_of f) b x out))
