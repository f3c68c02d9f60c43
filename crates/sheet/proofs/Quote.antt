-- Quote, then carry out: what Execute makes of its ceiling, and that a quote followed by its execution is Expand (N7).
-- Assumes nothing.
use mathlib.Core.Path.{◌≡◌, refl, sym, ap, ◌∙◌}
use mathlib.Core.Bool.{Bool, true, false, not, ◌&&◌, cond, and-true}
use mathlib.Core.List.{List, [], ◌∷◌, ◌++◌}
use Prim.Native.Nat.{ℕ, ◌-◌, ◌≤◌, ◌<◌}
use native.Mathlib.Omega.{arith}
use lib.Dec.{ltb}
use lib.ListN.{length}
use borrow.Author.Tests.{lt-ltb, le-ltb}
use Rattle.formula.specs.Expand.{expanded}
use Rattle.formula.specs.Solve.{fits_raw}
use Rattle.sheet.specs.Format.{Bytes, Format, fits}
use Rattle.sheet.specs.Sheet.{formula, sheet}
use Rattle.sheet.specs.Check.{Answer, refused, accepted, Test, test, answer, passes}
use Rattle.sheet.specs.Operations.{output_after, write, quote_tests, raw_count, quote_call, raw_room_test, expand_tests, expand_call, execute_tests, execute_call}
use Rattle.sheet.proofs.Tests.{passes-++, answer-++, accepted_passes, refused_first}
use Rattle.sheet.proofs.Writing.{write_refused}

-- a test that doesn't fail makes no difference
answer_between : {A : Type 0} (ts : List Test) (t : Test) (us : List Test) (a : A) → t.fails ≡ false → answer (ts ++ (t ∷ us)) a ≡ answer (ts ++ us) a
unfolding answer
answer_between [] t us a e = ap (λ (f : Bool). cond f (refused t.number t.place) (answer us a)) e
answer_between (s ∷ ts) t us a e = ap (λ r. cond s.fails (refused s.number s.place) r) (answer_between ts t us a e)

module _ (F : Format) (b : Bytes) (x : ℕ) where
  -- within the ceiling, Execute is Expand
  pub execute_within : (ceiling : ℕ) (out : Bytes) → raw_count F b x ≤ ceiling → execute_call F b x ceiling out ≡ expand_call F b x out
  unfolding execute_call expand_call execute_tests expand_tests write
  execute_within ceiling out h =
      let new = sheet F (expanded x (formula F b)) in
      ap (λ (a : Answer ℕ). record { answer = a; output = output_after a new out })
      (answer_between (quote_tests F b x) (test (ltb ceiling (raw_count F b x)) 19 0) (raw_room_test F b x (length out) ∷ []) (length new)
      (le-ltb ceiling (raw_count F b x) h))

  -- above it, a sheet whose quote is given is refused by 19, whatever the output
  pub execute_above : (ceiling : ℕ) (out : Bytes) → passes (quote_tests F b x) ≡ true → ceiling < raw_count F b x
      → (refused 19 0 ≡ (execute_call F b x ceiling out).answer) × (out ≡ (execute_call F b x ceiling out).output)
  unfolding execute_call execute_tests answer
  execute_above ceiling out p h =
      write_refused (execute_tests F b x ceiling (length out)) x (sheet F (expanded x (formula F b))) out
      (rw (answer-++ (quote_tests F b x) (test (ltb ceiling (raw_count F b x)) 19 0 ∷ raw_room_test F b x (length out) ∷ []) x p, lt-ltb ceiling (raw_count F b x) h))

  -- a quote followed directly by its execution equals Expand, answer and every byte of the output
  pub quote_execute : (n : ℕ) (out : Bytes) → quote_call F b x ≡ accepted n → execute_call F b x n out ≡ expand_call F b x out
  unfolding quote_call
  quote_execute n out h = execute_within n out (omega (arith, (accepted_passes (quote_tests F b x) (raw_count F b x) n h).1))

  -- where the quote refuses, Expand and Execute refuse with the same number and place
  pub quote_refused : {n i : ℕ} (out : Bytes) → quote_call F b x ≡ refused n i
      → ((expand_call F b x out).answer ≡ refused n i) × ((ceiling : ℕ) → (execute_call F b x ceiling out).answer ≡ refused n i)
  unfolding quote_call expand_call execute_call expand_tests execute_tests write
  quote_refused out h = (
    sym (refused_first (quote_tests F b x) _ (raw_count F b x) _ (sym h)),
    λ ceiling. sym (refused_first (quote_tests F b x) _ (raw_count F b x) _ (sym h)),
  )

  -- what a quote is good for: Expand is accepted exactly if so many node rows, and one variable less, fit the output
  pub quote_room : (n : ℕ) (out : Bytes) → quote_call F b x ≡ accepted n
      → passes (expand_tests F b x (length out)) ≡ fits F (length out) (length (formula F b).prefix - 1) n
  unfolding quote_call expand_tests passes fits_raw
  quote_room n out h =
      let quoted = accepted_passes (quote_tests F b x) (raw_count F b x) n h in
      let fit = fits F (length out) (length (formula F b).prefix - 1) (raw_count F b x) in
      passes-++ (quote_tests F b x) (raw_room_test F b x (length out) ∷ []) ∙ ap (λ (c : Bool). c && (not (not fit) && true)) quoted.0 ∙
      and-true (not (not fit)) ∙ not-not fit ∙ ap (fits F (length out) (length (formula F b).prefix - 1)) quoted.1
    where
      not-not : (c : Bool) → not (not c) ≡ c
      not-not true = refl
      not-not false = refl
