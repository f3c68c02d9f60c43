-- Sheets carried over and brought back: the same rows, formula and sizes, and over and back restores the bytes.
-- Assumes nothing.
use mathlib.Core.Path.{◌≡◌, refl, sym, ap, ap₂, ◌∙◌, subst}
use mathlib.Core.Bool.{Bool, true, false, not, ◌&&◌, ◌||◌, or_assoc}
use mathlib.Core.List.{List, [], ◌∷◌, ◌++◌, map}
use Prim.Native.Nat.{ℕ, suc, ◌≤◌}
use native.Mathlib.Omega.{arith}
use lib.Dec.{eqb, ltb, leb}
use lib.ListN.{length, take, take-append-drop}
use borrow.Author.Tests.{not-true, not-false, ltb-false, le-ltb}
use Rattle.formula.specs.Tree.{and, or, Quantifier, Prefix, Formula}
use Rattle.formula.specs.Truth.{truth}
use Rattle.formula.proofs.Booleans.{and_parts, or_parts, or-none}
use Rattle.sheet.specs.Format.{Bytes, Format, narrow, wide, Row, sheet_length, variables, nodes, all_rows, prefix_rows, node_rows, AllBytes}
use Rattle.sheet.specs.Sheet.{quantifier_kind, binding, binding_row, formula, sheet}
use Rattle.sheet.specs.Check.{refused, accepted, Test, answer, passes, member, node_tests, arguments, check_tests, check}
use Rattle.sheet.specs.Operations.{Written, write}
use Rattle.sheet.specs.Limits.{Sound, numbered, Within}
use Rattle.sheet.specs.Conversion.{carried, Converted, above, beyond, to_wide_tests, to_wide_call, to_narrow_tests, to_narrow_call}
use Rattle.sheet.proofs.Tests.{passed-∷, passes-++, passed-++, answer-++, answer-passes, refused_first}
use Rattle.sheet.proofs.Writing.{written, write_refused, write_accepted}
use Rattle.sheet.proofs.Limits.{narrow_sound, wide_sound, numbered-∷, binds-numbered}
use Rattle.sheet.proofs.CheckTests.{passed, passed_quantifiers, member-arguments}
use Rattle.sheet.proofs.RoundTrip.{length-sheet, all-rows-sheet, formula-sheet, passes-sheet, check-sheet}
use Rattle.sheet.proofs.Accepted.{formula_rows-formula, accepted_variables, accepted_nodes, accepted_within, sheet-formula}
use Rattle.sheet.proofs.Calls.{front_written}
use Rattle.sheet.proofs.Refusals.{written_refused}
use Rattle.sheet.specs.Operations.{holds}

-- limits

numbered_wider : (F G : Format) (p : Prefix) → F.most_variables ≤ G.most_variables → numbered F p ≡ true → numbered G p ≡ true
unfolding numbered
numbered_wider F G [] l h = refl
numbered_wider F G (z ∷ p) l h =
    let b = and_parts (not (eqb z.variable 0 || ltb F.most_variables z.variable)) (numbered F p) h in
    let n = or_parts (eqb z.variable 0) (ltb F.most_variables z.variable) (not-true _ b.0) in
    let few = ltb-false F.most_variables z.variable n.1 in
    ap₂ ◌&&◌ (ap not (or-none n.0 (le-ltb G.most_variables z.variable (omega arith)))) (numbered_wider F G p l b.1)

pub within_wider : (F G : Format) (f : Formula) → F.most_variables ≤ G.most_variables → F.most_nodes ≤ G.most_nodes → Within F f → Within G f
within_wider F G f lv ln w =
    record {
      few_variables = omega (arith, w.few_variables);
      few_nodes = omega (arith, w.few_nodes);
      is_numbered = numbered_wider F G f.prefix lv w.is_numbered;
      is_distinct = w.is_distinct;
      is_closed = w.is_closed;
    }

-- numbers above a limit

above-++ : (most : ℕ) (rs ss : List Row) → above most (rs ++ ss) ≡ (above most rs || above most ss)
unfolding above
above-++ most [] ss = refl
above-++ most (r ∷ rs) ss =
    ap (λ t. leb r.kind 4 && ltb most r.argument || t) (above-++ most rs ss) ∙
    sym (or_assoc (leb r.kind 4 && ltb most r.argument) (above most rs) (above most ss))

-- numbers of a format, none of them above another's most, are numbers of that one
numbered_below : (F G : Format) (p : Prefix) → numbered F p ≡ true → above G.most_variables (map binding_row p) ≡ false
    → numbered G p ≡ true
unfolding numbered above binding_row
numbered_below F G [] h a = refl
numbered_below F G (z ∷ p) h a =
    let b = and_parts (not (eqb z.variable 0 || ltb F.most_variables z.variable)) (numbered F p) h in
    let n = or_parts (eqb z.variable 0) (ltb F.most_variables z.variable) (not-true _ b.0) in
    let l = or_parts (leb (quantifier_kind z.quantifier) 4 && ltb G.most_variables z.variable) _ a in
    ap₂ ◌&&◌ (ap not (or-none n.0 (small z.quantifier l.0))) (numbered_below F G p b.1 l.1)
  where
    small : (q : Quantifier) → (leb (quantifier_kind q) 4 && ltb G.most_variables z.variable) ≡ false
        → ltb G.most_variables z.variable ≡ false
    small and e = e
    small or e = e

module _ (F G : Format) (b : Bytes) (h : passes (check_tests F b) ≡ true) where
  abbrev most : ℕ
  most = G.most_variables

  prefix_below : above most (prefix_rows F b) ≡ false → numbered G (map binding (prefix_rows F b)) ≡ true
  prefix_below a =
      let q = passed_quantifiers F (prefix_rows F b) (passed F b h).quantifiers in
      numbered_below F G (map binding (prefix_rows F b)) q.is_numbered (ap (above most) q.rows_of_prefix ∙ a)

  -- a literal's number is bound
  nodes-below : (i : ℕ) (rs : List Row) → numbered G (map binding (prefix_rows F b)) ≡ true
      → passes (node_tests i (arguments (prefix_rows F b)) rs) ≡ true → above most rs ≡ false
  unfolding node_tests above
  nodes-below i [] n p = refl
  nodes-below i (r ∷ rs) n p =
      let kind = passed-∷ _ _ p in
      let bound = passed-∷ _ _ kind.1 in
      or-none (by (leb r.kind 4) bound.0) (nodes-below (suc i) rs n bound.1)
    where
      by : (t : Bool) → (t && not (member r.argument (arguments (prefix_rows F b)))) ≡ false → (t && ltb most r.argument) ≡ false
      by false e = refl
      by true e =
          le-ltb most r.argument
          (binds-numbered G (map binding (prefix_rows F b)) r.argument n
          (sym (member-arguments (prefix_rows F b) r.argument) ∙ not-false _ e))

  -- so the prefix rows tell
  pub above_prefix : above most (all_rows F b) ≡ above most (prefix_rows F b)
  unfolding prefix_rows node_rows
  above_prefix =
      ap (above most) (sym (take-append-drop (variables F b) (all_rows F b))) ∙
      above-++ most (prefix_rows F b) (node_rows F b) ∙ by (above most (prefix_rows F b)) refl
    where
      by : (t : Bool) → above most (prefix_rows F b) ≡ t → (t || above most (node_rows F b)) ≡ t
      by true e = refl
      by false e = nodes-below (variables F b) (node_rows F b) (prefix_below e) (passed F b h).node_kinds

  -- 24 passed: the formula is within the other format's limits
  pub within_passed : beyond F G b ≡ false → Within G (formula F b)
  unfolding beyond formula
  within_passed e =
      let w = accepted_within F b h in
      let l = or_parts (ltb most (variables F b) || ltb G.most_nodes (nodes F b)) (above most (all_rows F b)) e in
      let s = or_parts (ltb most (variables F b)) (ltb G.most_nodes (nodes F b)) l.0 in
      record {
        few_variables = omega (arith, ltb-false most (variables F b) s.0, accepted_variables F b h);
        few_nodes = omega (arith, ltb-false G.most_nodes (nodes F b) s.1, accepted_nodes F b h);
        is_numbered = prefix_below (sym above_prefix ∙ l.1);
        is_distinct = w.is_distinct;
        is_closed = w.is_closed;
      }

  above-numbered : (p : Prefix) → numbered G p ≡ true → above most (map binding_row p) ≡ false
  unfolding above binding_row
  above-numbered [] n = refl
  above-numbered (z ∷ p) n =
      let few = numbered-∷ G z p n in
      or-none (by (leb (quantifier_kind z.quantifier) 4) (le-ltb most z.variable few.0)) (above-numbered p few.1)
    where
      by : (t : Bool) {a : Bool} → a ≡ false → (t && a) ≡ false
      by true e = e
      by false e = refl

  -- and 24 refuses no formula within the other format's limits
  pub within-passes : Within G (formula F b) → beyond F G b ≡ false
  unfolding beyond formula
  within-passes w =
      let q = passed_quantifiers F (prefix_rows F b) (passed F b h).quantifiers in
      or-none
      (or-none (le-ltb most (variables F b) (omega (arith, w.few_variables, accepted_variables F b h)))
      (le-ltb G.most_nodes (nodes F b) (omega (arith, w.few_nodes, accepted_nodes F b h))))
      (above_prefix ∙ ap (above most) (sym q.rows_of_prefix) ∙ above-numbered (map binding (prefix_rows F b)) w.is_numbered)

-- a sheet of one format whose formula is within the limits of another

module _ (F G : Format) (sound : Sound G) (b : Bytes) (h : passes (check_tests F b) ≡ true) (within : Within G (formula F b)) where
  pub length_converted : length (carried F G b) ≡ sheet_length G (variables F b) (nodes F b)
  unfolding carried
  length_converted = length-sheet G (formula F b) ∙ ap₂ (sheet_length G) (accepted_variables F b h) (accepted_nodes F b h)

  pub sheet_converted : Converted F G b (carried F G b)
  unfolding carried check
  sheet_converted =
      let back = formula-sheet G sound (formula F b) within in
      record {
        same_sizes =
            check-sheet G sound (formula F b) within ∙
            ap₂ (λ v n. accepted (record { variables = v; nodes = n })) (accepted_variables F b h) (accepted_nodes F b h) ∙
            sym (answer-passes (check_tests F b) _ h);
        is_accepted = passes-sheet G sound (formula F b) within;
        same_rows = all-rows-sheet G sound (formula F b) within ∙ formula_rows-formula F b h;
        same_formula = back;
        same_truth = ap truth back;
      }

  -- carried back it has its own bytes again
  pub converted_back : AllBytes b → carried G F (carried F G b) ≡ b
  unfolding carried
  converted_back bytes = ap (sheet F) (formula-sheet G sound (formula F b) within) ∙ sheet-formula F b bytes h

-- the calls

module _ (b : Bytes) where
  pub to_wide-within : passes (check_tests narrow b) ≡ true → Within wide (formula narrow b)
  to_wide-within h = within_wider narrow wide (formula narrow b) (omega arith) (omega arith) (accepted_within narrow b h)

  module _ (out : Bytes) where
    pub to-wide-converted : (n : ℕ) → (to_wide_call b out).answer ≡ accepted n → Converted narrow wide b (take n (to_wide_call b out).output)
    unfolding to_wide_call to_wide_tests
    to-wide-converted n e =
        let w = front_written (to_wide_tests b (length out)) (carried narrow wide b) out n e in
        let h = (passed-++ (check_tests narrow b) _ w.0).0 in
        subst (Converted narrow wide b) (sym w.1) (sheet_converted narrow wide wide_sound b h (to_wide-within h))

    pub to-wide-refused : (n i : ℕ) → (to_wide_call b out).answer ≡ refused n i → (to_wide_call b out).output ≡ out
    unfolding to_wide_call
    to-wide-refused n i e = written_refused _ _ out n i e

    pub to-narrow-converted : (n : ℕ) → (to_narrow_call b out).answer ≡ accepted n
        → Converted wide narrow b (take n (to_narrow_call b out).output)
    unfolding to_narrow_call to_narrow_tests
    to-narrow-converted n e =
        let w = front_written (to_narrow_tests b (length out)) (carried wide narrow b) out n e in
        let p = passed-++ (check_tests wide b) _ w.0 in
        let within = within_passed wide narrow b p.0 (passed-∷ _ _ p.1).0 in
        subst (Converted wide narrow b) (sym w.1) (sheet_converted wide narrow narrow_sound b p.0 within)

    pub to-narrow-refused : (n i : ℕ) → (to_narrow_call b out).answer ≡ refused n i → (to_narrow_call b out).output ≡ out
    unfolding to_narrow_call
    to-narrow-refused n i e = written_refused _ _ out n i e

-- a refusal that is the answer, and an output that stays
abbrev Refuses : Written → ℕ → ℕ → Bytes → Type 0
Refuses w n i out = (refused n i ≡ w.answer) × (out ≡ w.output)

write-holds : (tests : List Test) (new out : Bytes) → passes tests ≡ true → write tests new out ≡ holds new out
unfolding write
write-holds tests new out h =
    sym (written (write_accepted tests new out h))

-- the tests behind those that pass refuse
write-behind : (ts us : List Test) (new out : Bytes) (n i : ℕ) → passes ts ≡ true → refused n i ≡ answer us (length new)
    → Refuses (write (ts ++ us) new out) n i out
write-behind ts us new out n i h e = write_refused (ts ++ us) (length new) new out (e ∙ sym (answer-++ ts us (length new) h))

module _ (b out : Bytes) where
  -- 1 to 8 come first
  pub to_wide_unchecked : {n i : ℕ} → refused n i ≡ check narrow b → Refuses (to_wide_call b out) n i out
  unfolding to_wide_call to_wide_tests check
  to_wide_unchecked e = write_refused _ (length (carried narrow wide b)) _ out (refused_first (check_tests narrow b) _ _ _ e)

  pub to_narrow_unchecked : {n i : ℕ} → refused n i ≡ check wide b → Refuses (to_narrow_call b out) n i out
  unfolding to_narrow_call to_narrow_tests check
  to_narrow_unchecked e = write_refused _ (length (carried wide narrow b)) _ out (refused_first (check_tests wide b) _ _ _ e)

  module _ (h : passes (check_tests narrow b) ≡ true) where
    pub to-wide-holds : sheet_length wide (variables narrow b) (nodes narrow b) ≤ length out
        → to_wide_call b out ≡ holds (carried narrow wide b) out
    unfolding to_wide_call to_wide_tests passes
    to-wide-holds room = write-holds _ _ out (passes-++ (check_tests narrow b) _ ∙ rw (h, le-ltb (length out) _ room))

  module _ (h : passes (check_tests wide b) ≡ true) where
    -- 24 comes next, however short the output
    pub to-narrow-beyond : beyond wide narrow b ≡ true → Refuses (to_narrow_call b out) 24 0 out
    unfolding to_narrow_call to_narrow_tests answer
    to-narrow-beyond e = write-behind (check_tests wide b) _ _ out 24 0 h (rw e)

    pub to-narrow-holds : beyond wide narrow b ≡ false → sheet_length narrow (variables wide b) (nodes wide b) ≤ length out
        → to_narrow_call b out ≡ holds (carried wide narrow b) out
    unfolding to_narrow_call to_narrow_tests passes
    to-narrow-holds below room = write-holds _ _ out (passes-++ (check_tests wide b) _ ∙ rw (h, below, le-ltb (length out) _ room))

-- Over and back restores the bytes, and so does back and over, whatever the outputs held: the second one need only be as long as the
-- first sheet.
module _ (b out again : Bytes) (n : ℕ) (bytes : AllBytes b) (room : length b ≤ length again) where
  pub over-and_back : (to_wide_call b out).answer ≡ accepted n → to_narrow_call (take n (to_wide_call b out).output) again ≡ holds b again
  unfolding to_wide_call to_wide_tests
  over-and_back e =
      let w = front_written (to_wide_tests b (length out)) (carried narrow wide b) out n e in
      let h = (passed-++ (check_tests narrow b) _ w.0).0 in
      let c = sheet_converted narrow wide wide_sound b h (to_wide-within b h) in
      let restored = converted_back narrow wide wide_sound b h (to_wide-within b h) bytes in
      let within = subst (Within narrow) (sym c.same_formula) (accepted_within narrow b h) in
      let short = length_converted wide narrow narrow_sound (carried narrow wide b) c.is_accepted within in
      ap (λ s. to_narrow_call s again) w.1 ∙
      to-narrow-holds (carried narrow wide b) again c.is_accepted (within-passes wide narrow (carried narrow wide b) c.is_accepted within)
      (omega (arith, short, ap length restored)) ∙
      ap (λ s. holds s again) restored

  pub back_and-over : (to_narrow_call b out).answer ≡ accepted n → to_wide_call (take n (to_narrow_call b out).output) again ≡ holds b again
  unfolding to_narrow_call to_narrow_tests
  back_and-over e =
      let w = front_written (to_narrow_tests b (length out)) (carried wide narrow b) out n e in
      let p = passed-++ (check_tests wide b) _ w.0 in
      let below = within_passed wide narrow b p.0 (passed-∷ _ _ p.1).0 in
      let c = sheet_converted wide narrow narrow_sound b p.0 below in
      let restored = converted_back wide narrow narrow_sound b p.0 below bytes in
      let within = to_wide-within (carried wide narrow b) c.is_accepted in
      let long = length_converted narrow wide wide_sound (carried wide narrow b) c.is_accepted within in
      ap (λ s. to_wide_call s again) w.1 ∙
      to-wide-holds (carried wide narrow b) again c.is_accepted (omega (arith, long, ap length restored)) ∙
      ap (λ s. holds s again) restored
