-- What an answer claims about truth, its number claims too.
-- Assumes nothing.
use mathlib.Core.Path.{◌≡◌, refl, sym, ap, ap₂, ◌∙◌, subst}
use mathlib.Core.Bool.{Bool, true, false, cond}
use Prim.Native.Nat.{ℕ, ◌+◌, ◌*◌, ◌/◌, ◌%◌, ◌≤◌, ◌<◌}
use native.Mathlib.Omega.{arith}
use lib.Dec.{eqb}
use borrow.Author.Tests.{eq-eqb, eqb-false}
use Rattle.formula.specs.Tree.{Quantifier, and, or}
use Rattle.formula.specs.Trial.{Tried}
use Rattle.formula.specs.Force.{Forced, neither, with-0, with-1, both, stopped_at}
use Rattle.sheet.specs.Format.{Bytes, Format}
use Rattle.sheet.specs.Sheet.{quantifier_kind}
use Rattle.sheet.specs.Check.{Answer, refused, accepted, IsKnown}
use Rattle.sheet.specs.Operations.{Written, Solved, is_refused, is_stopped, is_ended, Solving}
use Rattle.sheet.specs.Outer.{Copied}
use Rattle.sheet.specs.Guards.{Guards, Guarding, guards_refused, guards_stopped, guards_true, guards_kept}
use Rattle.sheet.specs.Force.{Panel, Forcing}
use Rattle.sheet.specs.Truthful.{Holds, TruthfulSheet, TruthfulTrial, TruthfulSolve, TruthfulGuards, TruthfulForce}
use Rattle.outer.specs.Answers.{OuterWritten, lengths, length_alone}
use Rattle.packing.specs.Packed.{packed, packed_trial, packed_written, packed_solved, packed_guards}
use Rattle.packing.specs.Copies.{packed_copied}
use Rattle.packing.specs.Panel.{packed_outcome, packed_forced}
use Rattle.packing.specs.Unpacked.{number_of, word_of, low_of, high_of, unpacked, unpacked_trial, unpacked_written, turn_of, outcome_of}
use Rattle.packing.specs.Unpacked.{FitsTrial, FitsWritten, FitsCopied, FitsGuards, FitsOutcome, FitsForced}
use Rattle.packing.specs.Returned.{Output, packed_writing}
use Rattle.packing.specs.Told.{ToldSheet, ToldCopied, ToldTrial, ToldSolve, ToldGuards, ToldForce}
use Rattle.packing.proofs.Unpacking.{unpack_trial, unpack_written, unpack_copied, unpack_guards, unpack_forced}

-- with the number 0 an answer is accepted
pub zero_accepted : {A : Type 0} (n : ℕ) (a : A) → number_of n ≡ 0 → unpacked n a ≡ accepted a
zero_accepted n a z = ap (λ m. cond m (accepted a) (refused (number_of n) (low_of n))) (eq-eqb (number_of n) 0 z)

-- what packing returns beside what an operation that writes a sheet answers and leaves
pub written_joined : {r : ℕ} {w call : Written} → r ≡ packed_written w.answer → w ≡ call
    → ◌≡◌ {A = Output} (record { number = r; output = w.output }) (packed_writing call)
written_joined {w = w} p e = ap (λ (n : ℕ). record { number = n; output = w.output }) p ∙ ap packed_writing e

pub told_sheet : {F : Format} {t : Bool} {w : Written} → FitsWritten w.answer → TruthfulSheet F t w
    → ToldSheet F t (packed_written w.answer) w.output
told_sheet {w = w} fits truthful =
    let n = packed_written w.answer in
    record { on_accepted = λ z. truthful.on_accepted (high_of n) (sym (unpack_written w.answer fits) ∙ zero_accepted n (high_of n) z) }

pub told_trial : {t : Bool} {a : Answer Tried} → FitsTrial a → TruthfulTrial t a → ToldTrial t (packed_trial a)
told_trial {t} {a} fits truthful = record { on_true = λ z w. said z true w refl; on_false = λ z w. said z false w refl }
  where
    said : number_of (packed_trial a) ≡ 0 → (v : Bool) {k : ℕ} → word_of (packed_trial a) ≡ k → eqb k 1 ≡ v → t ≡ v
    said z v w e =
        let n = packed_trial a in
        sym (truthful.on_accepted _ (sym (unpack_trial a fits) ∙ zero_accepted n _ z)) ∙ ap (λ k. eqb k 1) w ∙ e

-- the number and the word are told whatever the values
pub number_told : (a b c d : ℕ) → number_of (packed a b c d) ≡ a % 256
number_told a b c d = omega arith

pub word_told : (a b c d : ℕ) → word_of (packed a b c d) ≡ b % 256
word_told a b c d = omega arith

pub told_solved : {F : Format} {t : Bool} {first : Bytes} (a : Solved) → ((n i : ℕ) → a ≡ is_refused n i → IsKnown n)
    → ((v : Bool) (n m : ℕ) → a ≡ is_ended v n m → v ≡ t) → ((x n m : ℕ) → a ≡ is_stopped x n m → Holds F t first)
    → ToldSolve F t (packed_solved a) first
unfolding packed_solved
told_solved (is_refused n i) known ended stopped =
    let k = known n i refl in
    let no : number_of (packed n 0 i 0) ≡ 0 → ⊥ = λ z. omega (arith, k.least, k.most, z, number_told n 0 i 0) in
    record { on_true = λ z w. absurd (no z); on_false = λ z w. absurd (no z); on_stopped = λ z w. absurd (no z) }
told_solved (is_stopped x n m) known ended stopped =
    let h = m % 65536 + 65536 * (x % 65536) in
    let said = word_told 0 2 n h in
    record {
      on_true = λ z w. absurd (omega (arith, said, w));
      on_false = λ z w. absurd (omega (arith, said, w));
      on_stopped = λ z w. stopped x n m refl;
    }
told_solved {t = t} (is_ended true n m) known ended stopped =
    let said = word_told 0 1 n (m % 65536) in
    record {
      on_true = λ z w. sym (ended true n m refl);
      on_false = λ z w. absurd (omega (arith, said, w));
      on_stopped = λ z w. absurd (omega (arith, said, w));
    }
told_solved {t = t} (is_ended false n m) known ended stopped =
    let said = word_told 0 0 n (m % 65536) in
    record {
      on_true = λ z w. absurd (omega (arith, said, w));
      on_false = λ z w. sym (ended false n m refl);
      on_stopped = λ z w. absurd (omega (arith, said, w));
    }

pub told_solve : {F : Format} {t : Bool} {s : Solving} → ((n i : ℕ) → s.answer ≡ is_refused n i → IsKnown n) → TruthfulSolve F t s
    → ToldSolve F t (packed_solved s.answer) s.first
told_solve {s = s} known truthful = told_solved s.answer known truthful.on_ended truthful.on_stopped

pub told_copied : {F : Format} {t : Bool} (w : OuterWritten) → FitsCopied w.answer → TruthfulSheet F t (length_alone w)
    → ToldCopied F t (packed_copied w.answer) w.output
told_copied w fits truthful =
    let n = packed_copied w.answer in
    let c : Copied = record { new_length = low_of n; copied = high_of n % 65536; lowest = high_of n / 65536 } in
    record { on_accepted = λ z. truthful.on_accepted (low_of n) (ap lengths (sym (unpack_copied w.answer fits) ∙ zero_accepted n c z)) }

pub told_guards : {F : Format} {b : Bytes} {g : Guarding} → FitsGuards g.answer → TruthfulGuards F b g
    → ToldGuards F b (packed_guards g.answer) g.output
told_guards {F} {b} {g} fits truthful =
    record {
      on_true = λ z w. truthful.on_true _ _ (said z w ∙ refl);
      on_kept = λ z w. truthful.on_kept _ _ (said z w ∙ refl);
    }
  where
    n : ℕ
    n = packed_guards g.answer

    by_word : ℕ → Guards
    by_word k =
        cond (eqb k 2) (guards_stopped (high_of n / 65536) (low_of n) (high_of n % 65536))
        (cond (eqb k 1) (guards_true (low_of n) (high_of n % 65536)) (guards_kept (high_of n) (low_of n)))

    said : number_of n ≡ 0 → {k : ℕ} → word_of n ≡ k → g.answer ≡ by_word k
    said z w =
        sym (unpack_guards g.answer fits) ∙
        ap (λ m. cond m (by_word (word_of n)) (guards_refused (number_of n) (low_of n))) (eq-eqb (number_of n) 0 z) ∙ ap by_word w

kind_small : (q : Quantifier) → quantifier_kind q < 65536
kind_small or = omega arith
kind_small and = omega arith

-- a packed panel's word is at most 4
outcome_word : (turn : ℕ) (o : Forced) → FitsOutcome o → turn < 65536 → word_of (packed_outcome turn o) ≤ 4
unfolding packed_outcome
outcome_word turn neither l t = omega (arith, t)
outcome_word turn with-0 l t = omega (arith, t)
outcome_word turn with-1 l t = omega (arith, t)
outcome_word turn both l t = omega (arith, t)
outcome_word turn (stopped_at x) l t = omega (arith, t, l)

-- of such a word 4 alone says that a run stopped
word_stopped : (k x : ℕ) {y : ℕ} → k ≤ 4 → outcome_of k x ≡ stopped_at y → k ≡ 4
word_stopped k x {y} l e = by (eqb k 0) (eqb k 1) (eqb k 2) (eqb k 3) refl refl refl refl e
  where
    by : (a b c d : Bool) → eqb k 0 ≡ a → eqb k 1 ≡ b → eqb k 2 ≡ c → eqb k 3 ≡ d
        → cond a neither (cond b with-0 (cond c with-1 (cond d both (stopped_at x)))) ≡ stopped_at y → k ≡ 4
    by true b c d p q r s h = let z : ◌≡◌ {A = ℕ} 0 1 = cc in absurd (omega arith)
    by false true c d p q r s h = let z : ◌≡◌ {A = ℕ} 0 1 = cc in absurd (omega arith)
    by false false true d p q r s h = let z : ◌≡◌ {A = ℕ} 0 1 = cc in absurd (omega arith)
    by false false false true p q r s h = let z : ◌≡◌ {A = ℕ} 0 1 = cc in absurd (omega arith)
    by false false false false p q r s h = omega (arith, l, eqb-false k 0 p, eqb-false k 1 q, eqb-false k 2 r, eqb-false k 3 s)

pub told_force : {F : Format} {b vs : Bytes} {w : Forcing} → FitsForced w.answer → TruthfulForce F b vs w → ToldForce F b vs (packed_forced w.answer)
unfolding packed_forced packed_outcome
told_force {F} {b} {vs} {w} fits truthful =
    record {
      whose_turn = λ z. truthful.whose_turn panel-told (said z);
      which_wins = λ z k. truthful.which_wins panel-told (said z) (running z k);
    }
  where
    n : ℕ
    n = packed_forced w.answer

    panel-told : Panel
    panel-told = record { turn = turn_of (low_of n); outcome = outcome_of (word_of n) (high_of n) }

    said : number_of n ≡ 0 → w.answer ≡ accepted panel-told
    said z = sym (unpack_forced w.answer fits) ∙ zero_accepted n panel-told z

    -- a word that isn't 4 is said where no run stopped
    small : (a : Answer Panel) → FitsForced a → {p : Panel} → a ≡ accepted p → word_of (packed_forced a) ≤ 4
    small (refused m i) l e = let z : ◌≡◌ {A = ℕ} 0 1 = cc in absurd (omega arith)
    small (accepted p) l e = outcome_word (quantifier_kind p.turn) p.outcome l (kind_small p.turn)

    running : number_of n ≡ 0 → (word_of n ≡ 4 → ⊥) → (x : ℕ) → panel-told.outcome ≡ stopped_at x → ⊥
    running z k x h = k (word_stopped (word_of n) (high_of n) (small w.answer fits (said z)) h)
