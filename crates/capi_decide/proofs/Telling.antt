-- A contract for C with what its number says about truth: each law takes the equation of the contract, and gives it back with the claim.
-- Assumes nothing.
use mathlib.Core.Path.{◌≡◌, refl, sym, ap, ◌∙◌, subst}
use mathlib.Core.Bool.{Bool, true, false}
use mathlib.Core.Option.{none, some}
use Prim.Native.Nat.{ℕ, ◌<◌}
use native.Mathlib.Omega.{arith}
use Rattle.formula.specs.Join.{Answer as Known}
use Rattle.sheet.specs.Format.{Bytes}
use Rattle.sheet.specs.Check.{Answer, refused, accepted}
use Rattle.sheet.specs.Decide.{DecideAnswer, decide_refused, decide_ended, decide_no_place, decide_spent, Deciding, decide_call}
use Rattle.sheet.specs.Split.{split_call}
use Rattle.sheet.specs.Join.{join_call}
use Rattle.sheet.specs.Truthful.{truth_of}
use Rattle.sheet.proofs.Truthful.{decide_truthful, split_truthful, join_truthful}
use Rattle.rows.specs.Formats.{format_of}
use Rattle.rows.specs.declared.Format.{Format}
use Rattle.rows.proofs.Limits.{sound}
use Rattle.packing.specs.Packed.{packed}
use Rattle.packing.specs.Unpacked.{number_of, word_of, Tellable}
use Rattle.packing.specs.Returned.{Output, packed_writing}
use Rattle.packing.specs.Told.{ToldTrial}
use Rattle.packing.proofs.Telling.{number_told, word_told, told_sheet}
use Rattle.capi_decide.specs.Packed.{packed_decided, packed_joined}
use Rattle.capi_decide.specs.Returned.{allowed, Decided, packed_deciding}
use Rattle.capi_decide.specs.Unpacked.{FitsDecided, FitsJoined}
use Rattle.capi_decide.specs.Told.{ToldDecide, ToldJoin, ToldSplit}
use Rattle.capi_decide.proofs.Ranges.{decide-fits, join-fits, split-fits}

-- a refusal says nothing, and an accepted answer what its word does
told_refused : {t : Bool} {n i : ℕ} → Tellable n i → ToldTrial t (packed n 0 i 0)
told_refused {n = n} {i} k =
    let no : number_of (packed n 0 i 0) ≡ 0 → ⊥ = λ z. omega (arith, k.is_number, k.small_number, z, number_told n 0 i 0) in
    record { on_true = λ z w. absurd (no z); on_false = λ z w. absurd (no z) }

word_is : (w h : ℕ) → w < 256 → word_of (packed 0 w 0 h) ≡ w
word_is w h l = word_told 0 w 0 h ∙ omega (arith, l)

told_word : {t : Bool} (w h : ℕ) → w < 256 → (w ≡ 1 → t ≡ true) → (w ≡ 0 → t ≡ false) → ToldTrial t (packed 0 w 0 h)
told_word w h l is_true is_false =
    record { on_true = λ z k. is_true (sym (word_is w h l) ∙ k); on_false = λ z k. is_false (sym (word_is w h l) ∙ k) }

-- Decide

told_decided : {t : Bool} (a : DecideAnswer) → ((n i : ℕ) → a ≡ decide_refused n i → Tellable n i)
    → ((v : Bool) (runs : ℕ) → a ≡ decide_ended v runs → v ≡ t) → ToldDecide t (packed_decided a)
unfolding packed_decided
told_decided (decide_refused n i) known ended = told_refused (known n i refl)
told_decided (decide_ended true runs) known ended = told_word 1 runs (omega arith) (λ k. sym (ended true runs refl)) (λ k. absurd (omega (arith, k)))
told_decided (decide_ended false runs) known ended = told_word 0 runs (omega arith) (λ k. absurd (omega (arith, k))) (λ k. sym (ended false runs refl))
told_decided (decide_no_place runs) known ended = told_word 2 runs (omega arith) (λ k. absurd (omega (arith, k))) (λ k. absurd (omega (arith, k)))
told_decided (decide_spent runs) known ended = told_word 3 runs (omega arith) (λ k. absurd (omega (arith, k))) (λ k. absurd (omega (arith, k)))

-- what packing returns beside what Decide answers and leaves
pub deciding-joined : {r : ℕ} {w call : Deciding} → r ≡ packed_decided w.answer → w ≡ call
    → ◌≡◌ {A = Decided} (record { number = r; first = w.first; second = w.second; stack = w.stack }) (packed_deciding call)
deciding-joined {w = w} p e =
    ap (λ (n : ℕ). record { number = n; first = w.first; second = w.second; stack = w.stack }) p ∙ ap packed_deciding e

pub decide_told : (f : Format) (b : Bytes) (budget : ℕ) (first second stack : Bytes) {o : Decided}
    → o ≡ packed_deciding (decide_call (format_of f) b (allowed budget) first second stack)
    → (o ≡ packed_deciding (decide_call (format_of f) b (allowed budget) first second stack)) × ToldDecide (truth_of (format_of f) b) o.number
decide_told f b budget first second stack e =
    let call = decide_call (format_of f) b (allowed budget) first second stack in (
      e,
      subst (λ (o : Decided). ToldDecide (truth_of (format_of f) b) o.number) (sym e)
          (told_decided call.answer (λ n i h. subst FitsDecided h (decide-fits f b budget first second stack))
          (decide_truthful (format_of f) b (allowed budget) first second stack refl).on_ended),
    )

-- Join

told_joined : {t : Bool} (a : Answer Known) → FitsJoined a → ((v : Bool) → a ≡ accepted (some v) → v ≡ t) → ToldTrial t (packed_joined a)
unfolding packed_joined
told_joined (refused n i) fits known = told_refused fits
told_joined (accepted none) fits known = told_word 2 0 (omega arith) (λ k. absurd (omega (arith, k))) (λ k. absurd (omega (arith, k)))
told_joined (accepted (some true)) fits known = told_word 1 0 (omega arith) (λ k. sym (known true refl)) (λ k. absurd (omega (arith, k)))
told_joined (accepted (some false)) fits known = told_word 0 0 (omega arith) (λ k. absurd (omega (arith, k))) (λ k. sym (known false refl))

pub join_told : (f : Format) (b : Bytes) (k : ℕ) (xs : Bytes) {n : ℕ} → n ≡ packed_joined (join_call (format_of f) b k xs)
    → (n ≡ packed_joined (join_call (format_of f) b k xs)) × ToldJoin (format_of f) b k xs n
join_told f b k xs e = (
  e,
  subst (ToldJoin (format_of f) b k xs) (sym e) (λ right.
      told_joined (join_call (format_of f) b k xs) (join-fits f b k xs) (λ v h. (join_truthful (format_of f) b k xs refl).on_known v h right)),
)

-- Split

pub split_told : (f : Format) (b vs out : Bytes) {o : Output} → o ≡ packed_writing (split_call (format_of f) b vs out)
    → (o ≡ packed_writing (split_call (format_of f) b vs out)) × ToldSplit (format_of f) b vs o.number o.output
split_told f b vs out e = (
  e,
  subst (λ (o : Output). ToldSplit (format_of f) b vs o.number o.output) (sym e)
      (told_sheet (split-fits f b vs out) (split_truthful (format_of f) (sound f) b vs out refl)),
)
