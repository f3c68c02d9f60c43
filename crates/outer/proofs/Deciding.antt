-- 11 and 18 behind tests 1 to 10, and all that the writing needs.
-- Assumes nothing.
use mathlib.Core.Path.{◌≡◌, sym, ap, ap₂, ◌∙◌, subst}
use mathlib.Core.Bool.{Bool, true, false}
use mathlib.Core.List.{List, [], ◌∷◌, ◌++◌}
use Prim.Native.Nat.{ℕ, ◌+◌, ◌-◌, ◌≤◌, ◌<◌}
use native.Mathlib.Omega.{arith}
use lib.Dec.{ltb}
use lib.ListN.{length, take, drop}
use borrow.Author.Tests.{lt-ltb, le-ltb}
use Rattle.formula.specs.Tree.{Formula, distinct}
use Rattle.formula.specs.Solve.{those}
use Rattle.formula.specs.Outer.{one_block_out, depends, dependents, unused, copies_of, too_few, lowest_of}
use Rattle.sheet.specs.Format.{Bytes, Format}
use Rattle.sheet.specs.Sheet.{formula}
use Rattle.sheet.specs.Check.{refused, Test, answer, passes}
use Rattle.sheet.specs.Outer.{copies, numbers_test}
use Rattle.sheet.proofs.Accepted.{accepted_within}
use Rattle.sheet.proofs.Tests.{passes-++, answer-++, refused_first}
use Rattle.rows.specs.Layouts.{format_in}
use Rattle.rows.specs.Formulas.{prefix_in, formula_in}
use Rattle.rows.specs.declared.Layout.{Layout}
use Rattle.rows.proofs.Formulas.{length_prefix}
use Rattle.checking.proofs.CheckedSheets.{sheet_readable, sheet-formula_in}
use Rattle.sets.specs.Sets.{holds}
use Rattle.dependence.specs.Blocks.{Located}
use Rattle.dependence.specs.Dependents.{Dependents}
use Rattle.dependence.specs.declared.Target.{Target}
use Rattle.substitution.specs.Changes.{putting, chosen}
use Rattle.substitution.proofs.Tables.{length-putting}
use Rattle.raw.specs.Formulas.{second_table}
use Rattle.elimination.specs.Steps.{Named}
use Rattle.elimination.specs.Admission.{admission_tests, Admitted}
use Rattle.elimination.specs.Survey.{Surveyed, Surveys}
use Rattle.elimination.specs.declared.survey.Draft.{Draft}
use Rattle.elimination.specs.declared.survey.Survey.{Survey}
use Rattle.elimination.proofs.Admitting.{sheet-numbered, sheet_steppable}
use Rattle.renaming.specs.Numbers.{renumbered, copy_tables}
use Rattle.renaming.proofs.Renumbering.{second_lent}
use Rattle.renaming.proofs.Depending.{numbers_left, those_same, dependents_whole, renumbered-take, length-renumbered}
use Rattle.outer.specs.Inner.Draft.{DraftsChosen}
use Rattle.outer.specs.Inner.OuterPlan.{Finds, block_test, plan_tests, OuterPlanned}

abbrev last_tests : Format → Bytes → ℕ → List Test
last_tests F b x = block_test F b x ∷ numbers_test F b x ∷ []

-- a refusal of tests 1 to 10
pub refused_before : {n i : ℕ} (F : Format) (b : Bytes) (x : ℕ) → refused n i ≡ answer (admission_tests F b x) x
    → refused n i ≡ answer (plan_tests F b x) x
unfolding plan_tests
refused_before F b x h = refused_first (admission_tests F b x) (last_tests F b x) x x h

-- the second table as it is lent
pub second_size : (x : ℕ) (ys ns : List ℕ) {tables : List ℕ} → tables ≡ copy_tables x ys ns
    → length (take (length tables - 1025) (drop 1025 tables)) ≡ 1025
second_size x ys ns filled =
    ap length (second_lent (putting x false) (renumbered ys ns (putting x true)) filled (length-putting x false)) ∙
    length-renumbered ys ns (putting x true) ∙ length-putting x true

-- a variable one block out: those that depend on it are found and counted, and the highest number is known
pub record Counted (b : Bytes) (t : Target) (set : List ℕ) (n highest : ℕ) : Type 0 where
  pub out : one_block_out t.variable (formula_in t.layout b) ≡ true
  pub found : Dependents t.variable (formula_in t.layout b) set
  pub count_is : n ≡ length (dependents t.variable (formula_in t.layout b))
  pub highest_is : highest ≡ (format_in t.layout).most_variables

-- a variable that tests 1 to 10 admit
module _ {b : Bytes} (t : Target) {ends : List ℕ} (a : Admitted b t.variable t.layout t.row ends) where
  abbrev s : Layout
  s = t.layout

  abbrev x : ℕ
  x = t.variable

  abbrev f : Formula
  f = formula_in s b

  abbrev F : Format
  F = format_in s

  abbrev H : ℕ
  H = F.most_variables

  pub located : Located s b t
  located =
      record {
        inside = a.named.inside;
        row_is = a.named.row_is;
        few = a.named.few;
        few_numbers = (sheet-numbered a.sheet).few_numbers;
      }

  same : f ≡ formula F b
  same = sheet-formula_in a.sheet

  pub distinct_here : distinct f.prefix ≡ true
  distinct_here = ap (λ (g : Formula). distinct g.prefix) same ∙ (accepted_within F b a.sheet.tests_pass).is_distinct

  -- the depending variables found, counted
  pub counting : {set : List ℕ} {r : Bool} {n highest : ℕ} → Finds x f set r → r ≡ true
      → ((y : ℕ) (g : Formula) → distinct g.prefix ≡ true → Dependents y g set → n ≡ length (dependents y g)) → highest ≡ H → Counted b t set n highest
  counting found e count high =
      record { out = sym found.0 ∙ e; found = found.1 e; count_is = count x f distinct_here (found.1 e); highest_is = high }

  sized : length f.prefix ≡ s.variables
  unfolding formula_in
  sized = length_prefix b (sheet_readable a.sheet)

  left : length (unused f.prefix H 1) + s.variables ≡ H
  left =
      let within = accepted_within F b a.sheet.tests_pass in
      ap (λ n. length (unused f.prefix H 1) + n) (sym sized) ∙
      ap (λ (g : Formula). length (unused g.prefix H 1) + length g.prefix) same ∙
      numbers_left F (formula F b).prefix within.is_numbered within.is_distinct

  -- 11 x is no such variable
  pub not_out : one_block_out x f ≡ false → refused 11 0 ≡ answer (plan_tests F b x) x
  unfolding plan_tests answer
  not_out e =
      rw (
        answer-++ (admission_tests F b x) (last_tests F b x) x a.tests_pass,
        ← same,
        e,
      )

  module _ {set : List ℕ} {n highest : ℕ} (k : Counted b t set n highest) where
    few_here : too_few H x (formula F b) ≡ ltb (highest - s.variables) n
    unfolding too_few
    few_here =
        ap (λ (g : Formula). ltb (length (unused g.prefix H 1)) (length (dependents x g))) (sym same) ∙
        ap₂ ltb (omega (arith, left, k.highest_is)) (sym k.count_is)

    -- 18 fewer unused numbers are left than variables to copy
    pub no_numbers : highest - s.variables < n → refused 18 0 ≡ answer (plan_tests F b x) x
    unfolding plan_tests answer
    no_numbers h =
        rw (
          answer-++ (admission_tests F b x) (last_tests F b x) x a.tests_pass,
          few_here,
          lt-ltb (highest - s.variables) n h,
          ← same,
          k.out,
        )

    module _ (enough : n ≤ highest - s.variables) where
      passing : passes (plan_tests F b x) ≡ true
      unfolding plan_tests passes
      passing =
          rw (
            passes-++ (admission_tests F b x) (last_tests F b x),
            a.tests_pass,
            few_here,
            le-ltb (highest - s.variables) n enough,
            ← same,
            k.out,
          )

      those-here : those (holds set) f.prefix ≡ dependents x f
      those-here = those_same (holds set) (depends x f) k.found.is f.prefix ∙ sym (dependents_whole x f distinct_here)

      numbers-here : unused f.prefix highest 1 ≡ unused f.prefix H 1
      numbers-here = ap (λ h. unused f.prefix h 1) k.highest_is

      pub room-for-all : length (those (holds set) (prefix_in s b)) ≤ length (unused (prefix_in s b) highest 1)
      unfolding formula_in
      room-for-all = omega (arith, ap length those-here, ap length numbers-here, k.count_is, k.highest_is, left)

      pub planned : {m : ℕ} → m ≡ lowest_of (dependents x f) → {tables : List ℕ}
          → tables ≡ copy_tables x (those (holds set) (prefix_in s b)) (unused (prefix_in s b) highest 1)
          → {second : List ℕ} → second ≡ second_table tables → {next : List ℕ} {d : Draft}
          → DraftsChosen second b t (s.variables - 1 + n) ends next d → {table : List ℕ} {w : Survey} → Surveys s b ends next d table w
          → OuterPlanned b tables table (record { variable = x; from = s; copied = n; lowest = m; survey = w })
      unfolding formula_in copies_of copies
      planned low filled {second} lent {d = d} dr {table} {w} surveys =
          let sv = surveys (chosen second) dr.drafts in
          record {
            tests_pass = passing;
            from = sheet_steppable a.sheet;
            same_formula = same;
            named = subst (Named s b x) (sym (sv.row_is ∙ dr.row_is)) a.named;
            copied_are = k.count_is ∙ ap (λ (g : Formula). length (dependents x g)) same;
            lowest_is = low ∙ ap (λ (g : Formula). lowest_of (dependents x g)) same;
            tables_are =
                filled ∙ ap₂ (copy_tables x) those-here numbers-here ∙
                ap (λ u. putting x false ++ u) (renumbered-take (dependents x f) (unused f.prefix H 1) (putting x true)) ∙
                ap (λ (g : Formula). copy_tables x (dependents x g) (copies_of H x g)) same;
            draft = d;
            variables_are = dr.variables_are;
            joint_is = dr.joint_is;
            surveyed = subst (λ u. Surveyed (chosen u) s b d table w) lent sv;
          }
