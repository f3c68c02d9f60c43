-- Certify (Certificates): the steps that words say, and its answer. Any words of any length say some steps.
-- Assumes nothing.
use Rattle.std.specs.Prelude.{Bool, true, false, List, [], ◌∷◌, map, ℕ, zero, suc, ◌+◌, ◌*◌, ◌/◌, ◌%◌, eqb, length, get_or}
use Rattle.std.proofs.Math.Seq.{slice}
use Rattle.formula.specs.Tree.{Op, and, or}
use Rattle.formula.specs.Certificates.{Literal, Constraint, Reason, initial, derived, Inference, Certified, certified}
use Rattle.sheet.specs.Format.{Bytes, Format}
use Rattle.sheet.specs.Sheet.{formula}
use Rattle.sheet.specs.Check.{Answer, answer, check_tests}

-- a literal's code, below 4,096: 2·variable, and one more for the negation
abbrev pub coded : ℕ → Literal
coded c = record { sign = eqb (c % 2) 0; variable = c / 2 }

-- the code that a word says: its twelve lowest binary digits
abbrev pub code_of : ℕ → ℕ
code_of w = w % 4096

abbrev pub literal_of : ℕ → Literal
literal_of w = coded (code_of w)

-- "four words a step (kind or pivot, two antecedents, where its codes end)"; a word that isn't there is 0
abbrev pub head_word : List ℕ → ℕ → ℕ → ℕ
head_word heads k j = get_or heads (4 * k + j) 0

-- 0 is initial, and any other word the pivot's code plus 1
unfoldable pub reason_of : ℕ → ℕ → ℕ → Reason
reason_of zero m n = initial
reason_of (suc w) m n = derived (literal_of w) m n

-- the codes of a step begin where those of the step before end
unfoldable pub codes_from : List ℕ → ℕ → ℕ
codes_from heads zero = 0
codes_from heads (suc k) = head_word heads k 3

-- the words between two places, as far as there are any
unfoldable pub step_words : List ℕ → List ℕ → ℕ → List ℕ
step_words heads codes k = slice (codes_from heads k) (head_word heads k 3) codes

unfoldable pub step_constraint : List ℕ → List ℕ → ℕ → Constraint
step_constraint heads codes k = map literal_of (step_words heads codes k)

abbrev pub step_at : List ℕ → List ℕ → ℕ → Inference
step_at heads codes k =
    record {
      reason = reason_of (head_word heads k 0) (head_word heads k 1) (head_word heads k 2);
      constraint = step_constraint heads codes k;
    }

-- n steps from step k on
unfoldable pub steps_from : List ℕ → List ℕ → ℕ → ℕ → List Inference
steps_from heads codes k zero = []
steps_from heads codes k (suc n) = step_at heads codes k ∷ steps_from heads codes (suc k) n

-- up to three words behind the last step say nothing
unfoldable pub steps_said : List ℕ → List ℕ → List Inference
steps_said heads codes = steps_from heads codes 0 (length heads / 4)

-- the side that shows a verdict: clauses refute, cubes prove
abbrev pub side_for : Bool → Op
side_for true = and
side_for false = or

-- Certify: 1 to 8; else what the steps that the words say are worth for this side
unfoldable pub certify_call : Format → Bytes → Op → List ℕ → List ℕ → Answer Certified
certify_call F b o heads codes = answer (check_tests F b) (certified o (formula F b) (steps_said heads codes))
