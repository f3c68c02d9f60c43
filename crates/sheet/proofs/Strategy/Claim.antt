-- Claim on sheets: what is written shows whether a strategy of any origin wins, what is refused and in which order, and that a strategy
-- which Strategy writes is claimed with the verdict's truth.
-- Assumes nothing.
use mathlib.Core.Path.{◌≡◌, refl, sym, ◌∙◌, ap, ap₂, subst}
use mathlib.Core.Bool.{Bool, true, false, not, ◌&&◌, ◌||◌, false≢true}
use mathlib.Core.List.{List, [], ◌∷◌}
use mathlib.Core.Option.{Option, none, some, get_or}
use Prim.Native.Nat.{ℕ, suc, ◌+◌, ◌*◌, ◌-◌, ◌≤◌}
use native.Mathlib.Omega.{arith}
use lib.Dec.{eqb, ltb}
use lib.ListN.{length, take, replicate}
use lib.Seq.{take-append_seam}
use borrow.Author.Tests.{not-false, eqb-true, eq-eqb}
use Rattle.formula.specs.Tree.{and, or, Quantifier, same_op, dual, Binding, Prefix, Formula, rows}
use Rattle.formula.specs.Truth.{truth}
use Rattle.formula.specs.Expand.{all_of}
use Rattle.formula.specs.Strategy.{Pairs, winner, solve_strategy, is_covering, in_order, WellFormed}
use Rattle.formula.specs.StrategyMatrix.{pairs_of}
use Rattle.formula.specs.Claim.{all_rows, claim}
use Rattle.formula.proofs.Booleans.{and_parts}
use Rattle.formula.proofs.Binding.{same_op_eq}
use Rattle.formula.proofs.Strategy.Wins.{wanted-winner}
use Rattle.formula.proofs.Strategy.Claim.{all_of-rows, length-all_rows, distinct-all_rows, closed-claim, claim_right, claim-truth, wins_claim, rows-claim_matrix}
use Rattle.formula.proofs.Strategy.Matrix.{pairs_matrix, matrix_pairs}
use Rattle.formula.proofs.Strategy.Tested.{well_formed_passed, covering_passes}
use Rattle.sheet.specs.Format.{Bytes, Format, fits, variables, nodes}
use Rattle.sheet.specs.Sheet.{formula, sheet}
use Rattle.sheet.specs.Refusals.{no_room}
use Rattle.sheet.specs.Check.{Answer, refused, accepted, Test, test, answer, passes, check_tests, check}
use Rattle.sheet.specs.Operations.{padded}
use Rattle.sheet.specs.Limits.{Sound, numbered, Within}
use Rattle.sheet.specs.Trace.{room}
use Rattle.sheet.specs.Strategy.{fits_output, strategy_written, strategy_formula, strategy_call, Claimed, claim_refused, claim_written, Claiming, equal_prefix, fault_row}
use Rattle.sheet.specs.Strategy.{pair_tests, strategy_tests, claim_formula, of_sheet, claim_answer, claim_output, claim_call, Claims}
use Rattle.sheet.proofs.Tests.{passed-∷, passes-++, passed-++, answer-++, answer-passes, accepted_passes, refused_first, refused_alike}
use Rattle.sheet.proofs.RoundTrip.{formula-sheet, passes-sheet}
use Rattle.sheet.proofs.Accepted.{accepted_nodes, accepted_within}
use Rattle.sheet.proofs.Strategy.Winning.{fits-rows, fits-length, strategy_sheet, strategy_comes_from}

-- prefixes

pub equal_prefix_same : (p r : Prefix) → equal_prefix p r ≡ true → p ≡ r
unfolding equal_prefix
equal_prefix_same [] [] h = refl
equal_prefix_same [] (y ∷ r) h = absurd (false≢true h)
equal_prefix_same (z ∷ p) [] h = absurd (false≢true h)
equal_prefix_same (z ∷ p) (y ∷ r) h =
    let kind = and_parts (same_op z.quantifier y.quantifier) (eqb z.variable y.variable && equal_prefix p r) h in
    let rest = and_parts (eqb z.variable y.variable) (equal_prefix p r) kind.1 in
    ap₂ (λ (u : Binding) (t : Prefix). u ∷ t)
    (ap₂ (λ (q : Quantifier) (v : ℕ). record { quantifier = q; variable = v }) (same_op_eq z.quantifier y.quantifier kind.0)
    (eqb-true z.variable y.variable rest.0))
    (equal_prefix_same p r rest.1)

pub same_equal_prefix : (p : Prefix) → equal_prefix p p ≡ true
unfolding equal_prefix
same_equal_prefix [] = refl
same_equal_prefix (z ∷ p) = ap₂ ◌&&◌ (same-op-self z.quantifier) (ap₂ ◌&&◌ (eq-eqb z.variable z.variable refl) (same_equal_prefix p))
  where
    same-op-self : (q : Quantifier) → same_op q q ≡ true
    same-op-self and = refl
    same-op-self or = refl

-- the limits of a claim

numbered-all_rows : (F : Format) (q : Quantifier) (p : Prefix) → numbered F (all_rows q p) ≡ numbered F p
unfolding numbered all_rows
numbered-all_rows F q [] = refl
numbered-all_rows F q (z ∷ p) =
    ap (λ (m : Bool). not (eqb z.variable 0 || ltb F.most_variables z.variable) && m) (numbered-all_rows F q p)

pub within-claim : (F : Format) (q : Quantifier) (f : Formula) (g : Pairs) → Within F f → WellFormed q f.prefix g
    → rows (claim q f g).matrix ≤ F.most_nodes → Within F (claim q f g)
unfolding claim
within-claim F q f g w well few =
    record {
      few_variables = omega (arith, length-all_rows (dual q) f.prefix, w.few_variables);
      few_nodes = few;
      is_numbered = numbered-all_rows F (dual q) f.prefix ∙ w.is_numbered;
      is_distinct = distinct-all_rows (dual q) f.prefix ∙ w.is_distinct;
      is_closed = closed-claim q f g w.is_closed well;
    }

-- answers

of_sheet_written : (which : ℕ) (tests : List Test) (c : Claimed) (n : ℕ) → of_sheet which (answer tests c) ≡ claim_written n
    → (passes tests ≡ true) × (c ≡ claim_written n)
unfolding of_sheet
of_sheet_written which tests c n h = by (answer tests c) refl h
  where
    by : (a : Answer Claimed) → answer tests c ≡ a → of_sheet which a ≡ claim_written n → (passes tests ≡ true) × (c ≡ claim_written n)
    by (refused m i) e k = let z : ◌≡◌ {A = ℕ} 0 1 = cc in absurd (omega arith)
    by (accepted d) e k =
        let p = accepted_passes tests c d e in
        (p.0, p.1 ∙ k)

pub of_sheet-passes : (which : ℕ) (tests : List Test) (c : Claimed) → passes tests ≡ true → of_sheet which (answer tests c) ≡ c
unfolding of_sheet
of_sheet-passes which tests c h = ap (of_sheet which) (answer-passes tests c h)

pub of_sheet_refused : {A : Type 0} (which : ℕ) (tests : List Test) (c : Claimed) (a : A) {n i : ℕ} → answer tests a ≡ refused n i
    → of_sheet which (answer tests c) ≡ claim_refused which n i
unfolding of_sheet
of_sheet_refused which tests c a h = ap (of_sheet which) (sym (refused_alike tests a c (sym h)))

module _ (F : Format) (b : Bytes) (q : Quantifier) (s : Bytes) where
  abbrev prefix_of : Bytes → Prefix
  prefix_of d = (formula F d).prefix

  -- the tests of the strategy's sheet that passed
  record ReadOff : Type 0 where
    is_checked : passes (check_tests F s) ≡ true
    same_prefix : prefix_of s ≡ prefix_of b
    pairs : Pairs
    are_read : pairs_of (formula F s).matrix ≡ some pairs
    covering : is_covering q (prefix_of b) pairs ≡ true
    ordered : in_order q (prefix_of b) pairs ≡ true

  read_off : passes (strategy_tests F b q s) ≡ true → ReadOff
  unfolding strategy_tests pair_tests
  read_off h =
      let checks = passed-++ (check_tests F s) _ h in
      let own = passed-∷ _ _ checks.1 in
      let same = equal_prefix_same (prefix_of b) (prefix_of s) (not-false (equal_prefix (prefix_of b) (prefix_of s)) own.0) in
      by checks.0 (sym same) (pairs_of (formula F s).matrix) refl own.1
    where
      by : passes (check_tests F s) ≡ true → prefix_of s ≡ prefix_of b → (o : Option Pairs) → pairs_of (formula F s).matrix ≡ o
          → passes (pair_tests q (prefix_of b) (suc (variables F s)) o) ≡ true → ReadOff
      by c e none k p = absurd (false≢true (sym (passed-∷ _ _ p).0))
      by c e (some g) k p =
          let covers = passed-∷ _ _ p in
          record {
            is_checked = c;
            same_prefix = e;
            pairs = g;
            are_read = k;
            covering = not-false (is_covering q (prefix_of b) g) covers.0;
            ordered = not-false (in_order q (prefix_of b) g) (passed-∷ _ _ covers.1).0;
          }

  -- and the other way round
  read_passes : (g : Pairs) → passes (check_tests F s) ≡ true → prefix_of s ≡ prefix_of b → pairs_of (formula F s).matrix ≡ some g
      → is_covering q (prefix_of b) g ≡ true → in_order q (prefix_of b) g ≡ true → passes (strategy_tests F b q s) ≡ true
  unfolding strategy_tests pair_tests passes
  read_passes g c e k covers ordered =
      passes-++ (check_tests F s) _ ∙
      rw (c, e, k, same_equal_prefix (prefix_of b), covers, ordered)

  module _ (out : Bytes) where
    abbrev call : Claiming
    call = claim_call F b q s out

    -- what was passed before a claim is written
    record Passed (n : ℕ) : Type 0 where
      is_checked : passes (check_tests F b) ≡ true
      read : ReadOff
      has_place : fits_output F (length out) (claim_formula F b q s) ≡ true
      is_length : length (sheet F (claim_formula F b q s)) ≡ n

    passed : (n : ℕ) → call.answer ≡ claim_written n → Passed n
    unfolding claim_call claim_answer
    passed n h =
        let new = claim_formula F b q s in
        let room-tests : List Test = test (not (fits_output F (length out) new)) no_room 0 ∷ [] in
        let one = of_sheet_written 1 (check_tests F b) _ n h in
        let two = of_sheet_written 2 (strategy_tests F b q s) _ n one.1 in
        let three = of_sheet_written 0 room-tests (claim_written (length (sheet F new))) n two.1 in
        let e = three.1 in
        record {
          is_checked = one.0;
          read = read_off two.0;
          has_place = not-false (fits_output F (length out) new) (passed-∷ _ _ three.0).0;
          is_length = cc;
        }

    -- for any bytes: what is written has the truth wanted exactly if the strategy wins
    pub claims_right : Sound F → (n : ℕ) → call.answer ≡ claim_written n → Claims F b q s (take n call.output)
    unfolding claim_call claim_output claim_formula padded claim
    claims_right sound n h =
        let p = passed n h in
        let r = p.read in
        let f = formula F b in
        let g = r.pairs in
        let w = accepted_within F b p.is_checked in
        let is : claim_formula F b q s ≡ claim q f g = ap (λ (o : Option Pairs). claim q f (get_or o [])) r.are_read in
        let well = well_formed_passed q f.prefix g w.is_distinct r.covering r.ordered in
        let few = fits-rows F (length out) (claim q f g) (ap (fits_output F (length out)) (sym is) ∙ p.has_place) in
        let within = within-claim F q f g w well few in
        let back : formula F (sheet F (claim q f g)) ≡ claim q f g = formula-sheet F sound (claim q f g) within in
        let new = sheet F (claim_formula F b q s) in
        let front : take n call.output ≡ sheet F (claim q f g)
        = ap₂ take (sym p.is_length) (ap (λ (a : Claimed). claim_output a new out) h) ∙
        take-append_seam new (replicate (length out - length new) 0) ∙ ap (sheet F) is in
        let right = claim_right q f g w.is_closed well in
        subst (Claims F b q s) (sym front)
        (record {
          is_accepted = passes-sheet F sound (claim q f g) within;
          one_quantifier = ap (λ (k : Formula). all_of (dual q) k.prefix) back ∙ all_of-rows (dual q) f.prefix;
          same_prefix = r.same_prefix;
          pairs = g;
          are_read = r.are_read;
          is_claim = back;
          well_formed = well;
          exactly_if = (
            (λ e. right.0 (sym (ap truth back) ∙ e)),
            (λ k. ap truth back ∙ right.1 k),
          );
          shows_truth = λ e. claim-truth q f g w.is_closed well w.is_distinct (sym (ap truth back) ∙ e);
        })

    -- what is written has its place
    pub claim_placed : (n : ℕ) → call.answer ≡ claim_written n → n ≤ length out
    claim_placed n h =
        let p = passed n h in
        omega (arith, p.is_length, fits-length F (length out) (claim_formula F b q s) p.has_place)

    -- refusing alters no byte
    pub claim_keeps : (which n i : ℕ) → call.answer ≡ claim_refused which n i → call.output ≡ out
    unfolding claim_call claim_output
    claim_keeps which n i h = ap (λ (a : Claimed). claim_output a (sheet F (claim_formula F b q s)) out) h

    -- the order: 1 to 8 of the first sheet; those of the strategy's, 26 and 27; 13

    pub first_refused : (n i : ℕ) → check F b ≡ refused n i → call.answer ≡ claim_refused 1 n i
    unfolding claim_call claim_answer check
    first_refused n i e = of_sheet_refused 1 (check_tests F b) _ _ e

    module _ (ok : passes (check_tests F b) ≡ true) where
      -- what the tests of the strategy's sheet refuse
      tests_refuse : {n i : ℕ} → ◌≡◌ {A = Answer ℕ} (answer (strategy_tests F b q s) 0) (refused n i) → call.answer ≡ claim_refused 2 n i
      unfolding claim_call claim_answer
      tests_refuse e = of_sheet-passes 1 (check_tests F b) _ ok ∙ of_sheet_refused 2 (strategy_tests F b q s) _ 0 e

      pub second_refused : (n i : ℕ) → check F s ≡ refused n i → call.answer ≡ claim_refused 2 n i
      unfolding strategy_tests check
      second_refused n i e = tests_refuse (sym (refused_first (check_tests F s) _ _ 0 (sym e)))

      module _ (checked : passes (check_tests F s) ≡ true) where
        pub other_prefix : equal_prefix (prefix_of b) (prefix_of s) ≡ false → call.answer ≡ claim_refused 2 26 0
        unfolding strategy_tests answer
        other_prefix e = tests_refuse (answer-++ (check_tests F s) _ 0 checked ∙ rw e)

        module _ (same : prefix_of s ≡ prefix_of b) where
          pair_tests_refuse : {n i : ℕ}
              → ◌≡◌ {A = Answer ℕ} (answer (pair_tests q (prefix_of b) (suc (variables F s)) (pairs_of (formula F s).matrix)) 0) (refused n i)
              → call.answer ≡ claim_refused 2 n i
          unfolding strategy_tests answer
          pair_tests_refuse e = tests_refuse (answer-++ (check_tests F s) _ 0 checked ∙ rw (same, same_equal_prefix (prefix_of b)) e)

          pub no_pairs : pairs_of (formula F s).matrix ≡ none → call.answer ≡ claim_refused 2 26 0
          unfolding pair_tests answer
          no_pairs e = pair_tests_refuse (rw e)

          module _ (g : Pairs) (read : pairs_of (formula F s).matrix ≡ some g) where
            pub uncovered : is_covering q (prefix_of b) g ≡ false → call.answer ≡ claim_refused 2 26 0
            unfolding pair_tests answer
            uncovered e = pair_tests_refuse (rw (read, e))

            module _ (covers : is_covering q (prefix_of b) g ≡ true) where
              pub reads_refused : in_order q (prefix_of b) g ≡ false
                  → call.answer ≡ claim_refused 2 27 (fault_row q (prefix_of b) (suc (variables F s)) g)
              unfolding pair_tests answer
              reads_refused e = pair_tests_refuse (rw (read, covers, e))

              module _ (ordered : in_order q (prefix_of b) g ≡ true) where
                abbrev new : Bytes
                new = sheet F (claim q (formula F b) g)

                room_left : call.answer ≡ of_sheet 0 (answer (test (not (fits_output F (length out) (claim q (formula F b) g))) no_room 0 ∷ []) (claim_written (length new)))
                unfolding claim_call claim_answer claim_formula
                room_left =
                    of_sheet-passes 1 (check_tests F b) _ ok ∙
                    of_sheet-passes 2 (strategy_tests F b q s) _ (read_passes g checked same read covers ordered) ∙
                    ap (λ (o : Option Pairs).
                    let k = claim q (formula F b) (get_or o []) in
                    of_sheet 0 (answer (test (not (fits_output F (length out) k)) no_room 0 ∷ []) (claim_written (length (sheet F k))))) read

                pub room_refused : fits_output F (length out) (claim q (formula F b) g) ≡ false → call.answer ≡ claim_refused 0 13 0
                unfolding answer of_sheet
                room_refused e = room_left ∙ rw e

                pub claim_accepted : fits_output F (length out) (claim q (formula F b) g) ≡ true
                    → call ≡ record { answer = claim_written (length new); output = padded (length out) new }
                unfolding answer of_sheet claim_call claim_output claim_formula
                claim_accepted e =
                    let a : claim_answer F b q s (length out) ≡ claim_written (length new) = room_left ∙ rw e in
                    ap₂ (λ (a : Claimed) (k : Bytes). record { answer = a; output = claim_output a k out }) a
                    (ap (λ (o : Option Pairs). sheet F (claim q (formula F b) (get_or o []))) read)

-- how many rows the claim of two sheets has: what 13 asks is known from their sizes
pub rows-claimed : (F : Format) (b : Bytes) (q : Quantifier) (s : Bytes) (g : Pairs) → passes (check_tests F b) ≡ true
    → passes (check_tests F s) ≡ true → pairs_of (formula F s).matrix ≡ some g
    → suc (rows (claim q (formula F b) g).matrix) ≡ nodes F b + 2 * nodes F s
rows-claimed F b q s g ok checked read =
    omega (
      arith,
      rows-claim_matrix q (formula F b) g,
      ap rows (matrix_pairs (formula F s).matrix g read),
      accepted_nodes F b ok,
      accepted_nodes F s checked,
    )

-- A strategy that Strategy wrote, claimed for the side that wins: if the claim fits, it is accepted, and its truth is the verdict.
module _ (F : Format) (sound : Sound F) (b first second out : Bytes) (v : Bool) (settles expands n : ℕ)
    (h : (strategy_call F b first second out).answer ≡ strategy_written v settles expands n) where
  abbrev own_strategy : Bytes
  own_strategy = take n (strategy_call F b first second out).output

  abbrev own_claim : Formula
  own_claim = claim (winner v) (formula F b) (solve_strategy (fits F (room first second)) (winner v) (formula F b))

  pub strategy-claimed : (out' : Bytes) → fits_output F (length out') own_claim ≡ true
      → (claim_call F b (winner v) own_strategy out' ≡
      record { answer = claim_written (length (sheet F own_claim)); output = padded (length out') (sheet F own_claim) }) ×
      (passes (check_tests F (sheet F own_claim)) ≡ true) × (truth (formula F (sheet F own_claim)) ≡ v)
  unfolding strategy_formula
  strategy-claimed out' fit =
      let c = strategy_comes_from F b first second out v settles expands n h in
      let read = (strategy_sheet F b first second out sound v settles expands n h).1 in
      let f = formula F b in
      let w = accepted_within F b c.is_checked in
      let g = solve_strategy (fits F (room first second)) (winner v) f in
      let well = c.is_right.well_formed in
      let own : pairs_of (formula F own_strategy).matrix ≡ some g
      = ap (λ (k : Formula). pairs_of k.matrix) (strategy_sheet F b first second out sound v settles expands n h).0 ∙ pairs_matrix g in
      let within = within-claim F (winner v) f g w well (fits-rows F (length out') own_claim fit) in (
        claim_accepted F b (winner v) own_strategy out' c.is_checked read.is_accepted read.same_prefix g own
            (covering_passes (winner v) f.prefix g w.is_distinct well) well.is_in_order fit,
        passes-sheet F sound own_claim within,
        ap truth (formula-sheet F sound own_claim within) ∙ wins_claim (winner v) f g c.is_right.wins ∙ wanted-winner v,
      )
