-- The draft of an expansion, from the literals of a set linked.
-- Assumes nothing.
use mathlib.Core.Path.{◌≡◌, sym, ◌∙◌}
use mathlib.Core.Bool.{Bool, true}
use mathlib.Core.List.{List}
use Prim.Native.Nat.{ℕ, ◌≤◌, ◌<◌}
use lib.Dec.{ltb}
use borrow.Author.Tests.{lt-ltb, le-ltb}
use Rattle.std.specs.Prelude.{Option, Some, None}
use Rattle.formula.specs.Tree.{Tree, Literals, has}
use Rattle.sheet.specs.Format.{Bytes}
use Rattle.rows.specs.Formulas.{matrix_in, Readable}
use Rattle.rows.specs.declared.Layout.{Layout}
use Rattle.subtrees.specs.Ends.{Indexed}
use Rattle.occurrences.specs.Chains.{Chain}
use Rattle.occurrences.proofs.Chains.{occurs}
use Rattle.subtrees.specs.Parts.{relevant_subtree}
use Rattle.relevance.specs.Raw.{presence, grown_by}
use Rattle.subtrees.specs.declared.relevant.Relevant.{Relevant}
use Rattle.relevance.specs.declared.Range.{Range}
use Rattle.relevance.proofs.Growth.{absent, present, raw_rows_by}
use Rattle.elimination.specs.Survey.{Drafts}
use Rattle.outer.specs.Inner.Chain.{Linked}

module _ (L : Literals) {s : Layout} (b : Bytes) {next : List ℕ} (ok : Readable s b) {r : Range} (l : Linked L s b next r) where
  abbrev t : Tree
  t = matrix_in s b

  has_here : {c : Bool} → ltb r.first s.nodes ≡ c → has L t ≡ c
  has_here e = sym (occurs L b ok l.starts) ∙ e

  pub part_absent : s.nodes ≤ r.first → None ≡ presence L t
  part_absent h = absent L t (has_here (le-ltb r.first s.nodes h))

  module _ (h : r.first < s.nodes) where
    present-here : has L t ≡ true
    present-here = has_here (lt-ltb r.first s.nodes h)

    pub chain-here : Chain L s b next r.first r.last
    chain-here = l.chain present-here

    pub part-present : {p : Relevant} → p ≡ relevant_subtree L 0 t → Some p ≡ presence L t
    part-present e = present L t present-here e

  pub drafted : {ends : List ℕ} → Indexed s b ends → {p : Option Relevant} → p ≡ presence L t → {n : ℕ} → n ≡ grown_by s.nodes p
      → (i v k : ℕ) → Drafts L s b ends next (record { relevant = p; first = r.first; raw = n; row = i; variables = v; joint = k })
  drafted indexed e rows i v k =
      record {
        indexed = indexed;
        part_is = e;
        raw_is = rows ∙ (raw_rows_by L b ok e).0;
        last = r.last;
        chain = l.chain;
      }
