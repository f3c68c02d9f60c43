-- What is found for the expansion of a variable, from its relevant subtree and the tables that it was found by.
-- Assumes nothing.
use mathlib.Core.Path.{◌≡◌, refl, sym, ap, ◌∙◌}
use mathlib.Core.Bool.{true, false, true≢false, false≢true}
use mathlib.Core.List.{List}
use Prim.Native.Nat.{ℕ, ◌+◌, ◌*◌, ◌≤◌}
use native.Mathlib.Omega.{arith}
use lib.ListN.{length, get_or}
use Rattle.formula.specs.Tree.{Op, and, or, same_op, exists, of, quantifier_of}
use Rattle.sheet.specs.Format.{Bytes}
use Rattle.sheet.specs.Sheet.{operator_kind}
use Rattle.rows.specs.Formulas.{prefix_in}
use Rattle.rows.specs.declared.Layout.{Layout}
use Rattle.rows.proofs.Formulas.{length_prefix}
use Rattle.prefixes.specs.Places.{binding_at, binding_in}
use Rattle.prefixes.proofs.Places.{quantifier_of-place}
use Rattle.relevance.specs.declared.variable.Candidate.{Candidate}
use Rattle.elimination.specs.Survey.{Drafts, Surveyed}
use Rattle.elimination.specs.Expanding.{Priced, draft_of, Prepared}
use Rattle.elimination.specs.declared.survey.Survey.{Survey}

module _ {s : Layout} {b : Bytes} {ends ranges next : List ℕ} {c : Candidate} (k : Priced s b ends ranges next c) where
  abbrev x : ℕ
  x = c.variable

  -- its draft
  pub drafts : Drafts (of x) s b ends next (draft_of s b ranges c)
  drafts =
      record {
        indexed = k.indexed;
        part_is = k.part_is;
        raw_is = k.raw_is;
        last = get_or ranges (2 * x + 1) 0;
        chain = k.occurrences.chained x k.named.few;
      }

  -- surveyed, it is all that the writing needs
  joint_of : operator_kind (binding_in s b c.row).quantifier ≡ operator_kind (quantifier_of (prefix_in s b) x)
  joint_of =
      let p = prefix_in s b in
      ap (λ i. operator_kind (binding_at p i).quantifier) k.named.row_is ∙
      ap operator_kind
      (sym (quantifier_of-place x p (omega (arith, k.named.inside, k.named.row_is, length_prefix b k.indexed.readable))))

  pub prepared : {table : List ℕ} {w : Survey} → Surveyed (of x) s b (draft_of s b ranges c) table w → Prepared s b x c.row table w
  prepared v =
      record {
        row_is = v.row_is;
        few_cuts = v.few_cuts;
        joint_is = v.joint_is ∙ joint_of;
        layout_is = v.layout_is;
        occurs_is = v.occurs_is;
        found = v.found;
      }
