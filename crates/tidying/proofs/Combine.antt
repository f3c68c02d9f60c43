-- All six rules at a row: what the steps at an operator make of its row and its children's segments.
-- Assumes nothing.
use mathlib.Core.Path.{◌≡◌, refl, sym, ap, ap₂, ◌∙◌, subst}
use mathlib.Core.Bool.{Bool, true, false}
use mathlib.Core.List.{List, [], ◌∷◌, ◌++◌, append_assoc}
use Prim.Native.Nat.{ℕ, zero, suc, ◌+◌, ◌-◌, ◌≤◌, ◌<◌}
use native.Mathlib.Omega.{arith}
use lib.ListN.{length}
use lib.Seq.{append_snoc, get_or_at}
use Rattle.formula.specs.Tree.{Op, and, or, dual, Tree, lit, node, Forest, ∅, ◌▸◌, ◌⧺◌, count}
use Rattle.formula.specs.Tidy.{same_tree, splice, decides, firsts, unwrap, combine, tidy, tidy_all}
use Rattle.formula.proofs.Tidy.Same.{firsts-once}
use Rattle.sheet.specs.Format.{Row, row, children}
use Rattle.sheet.specs.Sheet.{literal_kind, operator_kind, front, behind, grow}
use Rattle.sheet.proofs.Preorder.{NodeKind, literal, operator, node-kind}
use Rattle.tidy_rules.specs.Segments.{Segments, ◌◂◌, ◌⊕◌, head, inner, segment_rows, grown, live, OperatorKind}
use Rattle.tidy_rules.specs.Segments as segments
use Rattle.tidy_rules.specs.Gather.{end_of, judgement_of, Flat, ChildrenAt, Gathered, Gathers}
use Rattle.tidy_rules.specs.Rules.{is_decided}
use Rattle.std.specs.Prelude.{Option, None, Some}
use Rattle.tidy_rules.specs.declared.rules.RulesOutcome.{RulesOutcome}
use Rattle.tidy_rules.specs.declared.rules.RulesOutcome.TheVariants as outcome
use Rattle.tidy_rules.specs.Known.{Told, AllTold}
use Rattle.tidy_rules.specs.Walks.{at_row}
use Rattle.tidy_rules.proofs.Segments.{live-⊕, rows-⊕, length-⊕}
use Rattle.tidy_rules.proofs.Told.{told_at, told_join, told_first, told_last, told_keeps}
use Rattle.tidying.specs.Inner.Operators.{Headed, Replaced, KeptBehind, Left, LeftAt, OperatorReady, Combines, Hollows, Concludes}
use Rattle.tidying.proofs.Conclude.{behind-row}
use Rattle.tidying.proofs.Flat.{flat_tidied}

-- tidying children one by one

tidy-front : (n : ℕ) (ts : Forest) → tidy_all (front n ts) ≡ front n (tidy_all ts)
unfolding tidy_all front
tidy-front zero ts = refl
tidy-front (suc n) ∅ = refl
tidy-front (suc n) (t ▸ ts) = ap (λ us. tidy t ▸ us) (tidy-front n ts)

tidy-behind : (n : ℕ) (ts : Forest) → tidy_all (behind n ts) ≡ behind n (tidy_all ts)
unfolding tidy_all behind
tidy-behind zero ts = refl
tidy-behind (suc n) ∅ = refl
tidy-behind (suc n) (t ▸ ts) = tidy-behind n ts

count-tidy : (ts : Forest) → count (tidy_all ts) ≡ count ts
unfolding tidy_all count
count-tidy ∅ = refl
count-tidy (t ▸ ts) = ap suc (count-tidy ts)

-- grow

tidy-grow-literal : (s : Bool) (v : ℕ) (ts : Forest) → tidy_all (grow (row (literal_kind s) v) ts) ≡ lit s v ▸ tidy_all ts
unfolding tidy_all grow
tidy-grow-literal true v ts = refl
tidy-grow-literal false v ts = refl

tidy-grow_operator : (o : Op) (a : ℕ) (ts : Forest)
    → tidy_all (grow (row (operator_kind o) a) ts) ≡ combine o (front a (tidy_all ts)) ▸ behind a (tidy_all ts)
unfolding tidy_all grow
tidy-grow_operator and a ts = ap₂ (λ us ws. combine and us ▸ ws) (tidy-front a ts) (tidy-behind a ts)
tidy-grow_operator or a ts = ap₂ (λ us ws. combine or us ▸ ws) (tidy-front a ts) (tidy-behind a ts)

-- a literal's row is its segment already
literal-kept : {R : List Row} {r n : ℕ} {before : List Row} {bs : Segments} (K : List ℕ) (ts : Forest) (k a : ℕ) → NodeKind k → k ≤ 4
    → live bs ≡ tidy_all ts → AllTold K (r + 1) bs → Headed R r n before (row k a) bs [] → Replaced R K r n before [] (tidy_all (grow (row k a) ts))
unfolding segment_rows head inner live grown Told AllTold
literal-kept {bs = bs} K ts k a (literal s) l e told h =
    record {
      segments = segments.literal s a ◂ bs;
      laid = record { whole = h.whole; starts = h.starts; ends = omega (arith, h.ends) };
      told = (tt, told_at K bs (omega arith) told);
      reads = ap (λ us. lit s a ▸ us) e ∙ sym (tidy-grow-literal s a ts);
    }
literal-kept K ts k a (operator and) l e told h = absurd (omega arith)
literal-kept K ts k a (operator or) l e told h = absurd (omega arith)

ready_literal : {R : List Row} {K : List ℕ} {r n : ℕ} {before : List Row} {x : Row} {bs : Segments} {ts : Forest} → x.kind ≤ 4
    → OperatorReady R K r n before x bs ts → Replaced R K r n before [] (tidy_all (grow x ts))
ready_literal {K = K} {x = x} {ts = ts} l h =
    literal-kept K ts x.kind x.argument (node-kind x.kind h.node.0 h.node.1) l h.reads h.told h.headed

-- an operator's row

pub operator_of : (k : ℕ) → 4 < k → k ≤ 6 → OperatorKind k
operator_of k l u = go k (node-kind k (omega arith) u) l
  where
    go : (k : ℕ) → NodeKind k → 4 < k → OperatorKind k
    go k (literal true) l = absurd (omega arith)
    go k (literal false) l = absurd (omega arith)
    go k (operator o) l = record { op = o; is = refl }

children_is : (k a : ℕ) → OperatorKind k → children (row k a) ≡ a
unfolding children
children_is k a o = ap (λ m. children (row m a)) o.is ∙ both o.op
  where
    both : (p : Op) → children (row (operator_kind p) a) ≡ a
    both and = refl
    both or = refl

-- rules 2 to 6
combine_decided : (o : Op) (us : Forest) → true ≡ decides o (splice o us) → node (dual o) ∅ ≡ combine o us
unfolding combine
combine_decided o us e = rw (← e)

combine_undecided : (o : Op) (us ws : Forest) → false ≡ decides o (splice o us) → ws ≡ firsts same_tree (splice o us) → unwrap o ws ≡ combine o us
unfolding combine
combine_undecided o us ws e f = rw (← e) (ap (unwrap o) (f ∙ sym (firsts-once (splice o us))))

dual-kind : (k : ℕ) (o : Op) → k ≡ operator_kind o → 11 - k ≡ operator_kind (dual o)
dual-kind k and e = omega (arith, e)
dual-kind k or e = omega (arith, e)

headed_row : {R : List Row} {r to : ℕ} {before after : List Row} {x : Row} {bs : Segments} → Headed R r to before x bs after
    → at_row R r ≡ x
headed_row {r = r} {before = before} {after = after} {x = x} {bs = bs} h =
    ap (λ (l : List Row). at_row l r) h.whole ∙ get_or_at before x (segment_rows bs ++ after) (row 0 0) r h.starts

pub ready_literal_at : {R : List Row} {K : List ℕ} {r n k : ℕ} → k ≡ (at_row R r).kind → k ≤ 4 → Combines R R K K r n
ready_literal_at e l before x bs ts h = ready_literal (omega (arith, e, ap (λ (q : Row). q.kind) (headed_row h.headed))) h

-- what is told of the outcome
module _ {R R' : List Row} {K M : List ℕ} {from to owed kind : ℕ} {g : RulesOutcome}
    (gathers : Gathers R R' K M from (end_of g) to owed kind (judgement_of g)) where
  pub gathers_decided : {end : ℕ} → g ≡ outcome.Decided end → Gathers R R' K M from end to owed kind None
  gathers_decided e = subst (λ q. Gathers R R' K M from (end_of q) to owed kind (judgement_of q)) e gathers

  pub gathers_left : {end left hash : ℕ} → g ≡ outcome.Left end left hash → Gathers R R' K M from end to owed kind (Some left)
  gathers_left e = subst (λ q. Gathers R R' K M from (end_of q) to owed kind (judgement_of q)) e gathers

-- An operator's row: its kind and its number of children as they were read.
module _ {R : List Row} {K : List ℕ} {r n k a : ℕ} (k-is : k ≡ (at_row R r).kind) (a-is : a ≡ (at_row R r).argument) (l : 4 < k)
    {before : List Row} {x : Row} {bs : Segments} {ts : Forest} (h : OperatorReady R K r n before x bs ts) where
  kind_is : k ≡ x.kind
  kind_is = k-is ∙ ap (λ (q : Row). q.kind) (headed_row h.headed)

  argument_is : a ≡ x.argument
  argument_is = a-is ∙ ap (λ (q : Row). q.argument) (headed_row h.headed)

  ready_kind : OperatorKind k
  ready_kind = operator_of k l (omega (arith, kind_is, h.node.1))

  row_is : x ≡ row (operator_kind ready_kind.op) a
  row_is = ap₂ row (sym kind_is ∙ ready_kind.is) (sym argument_is)

  enough : a ≤ count (live bs)
  enough =
      omega
      (arith, h.enough, ap children row_is, children_is (operator_kind ready_kind.op) a (record { op = ready_kind.op; is = refl }), ap count h.reads, count-tidy ts)

  -- its children
  kids : Forest
  kids = front a (live bs)

  flat : Flat ready_kind.op kids
  unfolding kids
  flat = subst (λ us. Flat ready_kind.op (front a us)) (sym h.reads) (flat_tidied ready_kind.op a ts)

  pub ready_children : ChildrenAt R K (r + 1) n a k
  unfolding kids
  ready_children =
      record {
        before = _;
        segments = bs;
        after = _;
        laid = behind-row h.headed;
        told = h.told;
        enough = enough;
        op = ready_kind.op;
        is = ready_kind.is;
        flat = flat;
      }

  module _ {R₁ : List Row} {M : List ℕ} {end : ℕ} {j : Option ℕ} (gathers : Gathers R R₁ K M (r + 1) end n a k j) where
    gathered : Gathered R₁ K M (r + 1) end n (before ++ (x ∷ [])) [] ready_kind.op kids (behind a (live bs)) j
    unfolding kids
    gathered = gathers (before ++ (x ∷ [])) bs [] (behind-row h.headed) h.told enough ready_kind.op ready_kind.is flat

    pub ready-within : (r < end) × (end ≤ n)
    ready-within = (omega (arith, gathered.here.place), omega (arith, gathered.here.ends))

    behind-them : List Row
    behind-them = segment_rows gathered.others ++ []

    -- its row is still before what is left of them
    headed : Headed R₁ r end before x gathered.first behind-them
    unfolding behind-them
    headed =
        record {
          whole = gathered.here.whole ∙ append_snoc before x (segment_rows gathered.first ++ behind-them);
          starts = h.headed.starts;
          ends = gathered.here.place;
        }

    -- the node with what is behind it
    combined : {R' : List Row} {K' : List ℕ} {t : Tree} → Replaced R' K' r end before behind-them (t ▸ ∅) → KeptBehind K K' r → t ≡ combine ready_kind.op kids
        → Replaced R' K' r n before [] (tidy_all (grow x ts))
    unfolding behind-them kids ◌⧺◌
    combined {R'} {K'} {t} q later e =
        let others = gathered.others in
        let ends : r + length (segment_rows q.segments) ≡ end = q.laid.ends in
        record {
          segments = q.segments ⊕ others;
          laid =
              record {
                whole =
                    q.laid.whole ∙
                    ap (λ rs. before ++ rs)
                    (sym (append_assoc (segment_rows q.segments) (segment_rows others) []) ∙ ap (λ rs. rs ++ []) (sym (rows-⊕ q.segments others)));
                starts = q.laid.starts;
                ends = omega (arith, length-⊕ q.segments others, ends, gathered.here.ends);
              };
          told =
              told_join K' r q.segments others q.told
              (told_at K' others (sym ends)
              (told_keeps K K' end others (λ j u. later j (omega (arith, u, ready-within.0)))
              (told_at K others gathered.here.place (told_last K (r + 1) gathered.first others gathered.told))));
          reads =
              live-⊕ q.segments others ∙ ap (λ us. us ⧺ live others) q.reads ∙
              ap₂ ◌▸◌ (e ∙ ap (λ us. combine ready_kind.op (front a us)) h.reads) (gathered.others_are ∙ ap (behind a) h.reads) ∙
              sym (ap (λ y. tidy_all (grow y ts)) row_is ∙ tidy-grow_operator ready_kind.op a ts);
        }

    pub ready-decided : {R₂ : List Row} {K₂ : List ℕ} → j ≡ None → Hollows R₁ R₂ K₂ r end (11 - k) → KeptBehind K K₂ r
        → Replaced R₂ K₂ r n before [] (tidy_all (grow x ts))
    ready-decided e f later =
        combined (f before x gathered.first behind-them headed (dual ready_kind.op) (dual-kind k ready_kind.op ready_kind.is)) later
        (combine_decided ready_kind.op kids (sym (ap is_decided e) ∙ gathered.decided_is))

    module _ {left : ℕ} (u : j ≡ Some left) where
      is_left : Left R₁ K M r end left before x gathered.first behind-them
      is_left =
          record { headed = headed; told = told_first K (r + 1) gathered.first gathered.others gathered.told; noted = gathered.noted left u }

      pub ready-left : left ≤ length M → left < 65536 → LeftAt R₁ K M r end k left
      ready-left fit few =
          record {
            before = _;
            first = _;
            segments = _;
            after = _;
            is_left = is_left;
            op = ready_kind.op;
            is = ready_kind.is;
            members_fit = fit;
            countable = few;
          }

      pub ready-undecided : {R₂ : List Row} {K₂ : List ℕ} → Concludes R₁ R₂ K K₂ M r end k left → KeptBehind K K₂ r
          → Replaced R₂ K₂ r n before [] (tidy_all (grow x ts))
      ready-undecided f later =
          combined (f before x gathered.first behind-them is_left ready_kind.op ready_kind.is) later
          (combine_undecided ready_kind.op kids (live gathered.first) (sym (ap is_decided u) ∙ gathered.decided_is) (gathered.reads left u))
