-- Trees put in order: two lists in order are merged tree by tree.
-- Assumes nothing.
use mathlib.Core.Path.{◌≡◌, refl, sym, ap, ◌∙◌}
use mathlib.Core.Bool.{Bool, true, false, cond}
use Prim.Native.Nat.{suc, ◌+◌}
use Rattle.formula.specs.Tree.{Tree, Forest, ∅, ◌▸◌, rows, rows_all, count, ◌⧺◌}
use Rattle.formula.specs.Order.{leads, insert, sort, sort_all}
use Rattle.formula.proofs.Ordering.{leads-total, leads_trans}
use Rattle.formula.proofs.Sorting.{insert-leads, insert-follows, insert_swap, reordered_insert, rows_reordered, count_reordered}
use Rattle.tree_order.specs.Arranging.{into, arrange, sort_each, LeadsAll, Ascending, first_leads}

-- a tree that may stand before all

leads-all_trans : (t u : Tree) (us : Forest) → leads t u ≡ true → LeadsAll u us → LeadsAll t us
leads-all_trans t u ∅ e h = tt
leads-all_trans t u (w ▸ ws) e h = (leads_trans t u w e h.0, leads-all_trans t u ws e h.1)

insert-front : (t : Tree) (ts : Forest) → LeadsAll t ts → insert t ts ≡ t ▸ ts
unfolding insert
insert-front t ∅ h = refl
insert-front t (u ▸ us) h = insert-leads t u us h.0

leads-all-insert : (t u : Tree) (us : Forest) → leads t u ≡ true → LeadsAll t us → LeadsAll t (insert u us)
unfolding insert
leads-all-insert t u ∅ e h = (e, tt)
leads-all-insert t u (w ▸ ws) e h = by (leads u w) (leads-all-insert t u ws e h.1)
  where
    by : (b : Bool) → LeadsAll t (insert u ws) → LeadsAll t (cond b (u ▸ w ▸ ws) (w ▸ insert u ws))
    by true k = (e, h)
    by false k = (h.0, k)

leads-all-into : (t : Tree) (ts us : Forest) → LeadsAll t ts → LeadsAll t us → LeadsAll t (into ts us)
unfolding into
leads-all-into t ∅ us h k = k
leads-all-into t (u ▸ ts) us h k = leads-all-insert t u (into ts us) h.0 (leads-all-into t ts us h.1 k)

-- in order

insert_ascends : (t : Tree) (ts : Forest) → Ascending ts → Ascending (insert t ts)
unfolding insert
insert_ascends t ∅ h = (tt, tt)
insert_ascends t (u ▸ us) h = by (leads t u) refl (insert_ascends t us h.1)
  where
    by : (b : Bool) → leads t u ≡ b → Ascending (insert t us) → Ascending (cond b (t ▸ u ▸ us) (u ▸ insert t us))
    by true e k = ((e, leads-all_trans t u us e h.0), h)
    by false e k = (leads-all-insert u t us (leads-total t u e) h.0, k)

pub arrange_ascends : (ts : Forest) → Ascending (arrange ts)
unfolding into
arrange_ascends ∅ = tt
arrange_ascends (t ▸ ts) = insert_ascends t (arrange ts) (arrange_ascends ts)

-- one tree more: the left list's first, or the right one's

module _ (t : Tree) (ts us : Forest) (left : Ascending (t ▸ ts)) (right : Ascending us) where
  leads_right : (us : Forest) → Ascending us → first_leads t us ≡ true → LeadsAll t us
  leads_right ∅ h e = tt
  leads_right (u ▸ ws) h e = (e, leads-all_trans t u ws e h.0)

  pub into-left : first_leads t us ≡ true → into (t ▸ ts) us ≡ t ▸ into ts us
  unfolding into
  into-left e = insert-front t (into ts us) (leads-all-into t ts us left.0 (leads_right us right e))

-- none of the left list may stand before the right one's first
pub into_right : (t u : Tree) (ts us : Forest) → Ascending (t ▸ ts) → leads t u ≡ false → into (t ▸ ts) (u ▸ us) ≡ u ▸ into (t ▸ ts) us
unfolding into
into_right t u ts us h e =
    ap (insert t) (behind_first ts h.0) ∙ insert-follows t u (into ts us) e
  where
    late : (w : Tree) → leads t w ≡ true → leads w u ≡ false
    late w f = by (leads w u) refl
      where
        by : (b : Bool) → leads w u ≡ b → b ≡ false
        by true g = sym (leads_trans t w u f g) ∙ e
        by false g = refl

    behind_first : (ws : Forest) → LeadsAll t ws → into ws (u ▸ us) ≡ u ▸ into ws us
    behind_first ∅ k = refl
    behind_first (w ▸ ws) k = ap (insert w) (behind_first ws k.1) ∙ insert-follows w u (into ws us) (late w k.0)

-- arranging two halves, and then both

into-insert : (t : Tree) (ts us : Forest) → into (insert t ts) us ≡ insert t (into ts us)
unfolding into insert
into-insert t ∅ us = refl
into-insert t (u ▸ ts) us = by (leads t u) (into-insert t ts us)
  where
    by : (b : Bool) → into (insert t ts) us ≡ insert t (into ts us)
        → into (cond b (t ▸ u ▸ ts) (u ▸ insert t ts)) us ≡ insert t (insert u (into ts us))
    by true h = refl
    by false h = ap (insert u) h ∙ insert_swap u t (into ts us)

into-arrange : (ts us : Forest) → into (arrange ts) us ≡ into ts us
unfolding into
into-arrange ∅ us = refl
into-arrange (t ▸ ts) us = into-insert t (arrange ts) us ∙ ap (insert t) (into-arrange ts us)

into-⧺ : (ts us ws : Forest) → into (ts ⧺ us) ws ≡ into ts (into us ws)
unfolding into ◌⧺◌
into-⧺ ∅ us ws = refl
into-⧺ (t ▸ ts) us ws = ap (insert t) (into-⧺ ts us ws)

pub arrange-⧺ : (ts us : Forest) → into (arrange ts) (arrange us) ≡ arrange (ts ⧺ us)
arrange-⧺ ts us = into-arrange ts (arrange us) ∙ sym (into-⧺ ts us ∅)

-- rows and count stay

pub rows-arrange : (ts : Forest) → rows_all (arrange ts) ≡ rows_all ts
unfolding into rows_all
rows-arrange ∅ = refl
rows-arrange (t ▸ ts) = sym (rows_reordered (reordered_insert t (arrange ts))) ∙ ap (λ n. rows t + n) (rows-arrange ts)

pub count-arrange : (ts : Forest) → count (arrange ts) ≡ count ts
unfolding into count
count-arrange ∅ = refl
count-arrange (t ▸ ts) = sym (count_reordered (reordered_insert t (arrange ts))) ∙ ap suc (count-arrange ts)

-- sort-each

pub sort_all_arranges : (ts : Forest) → sort_all ts ≡ arrange (sort_each ts)
unfolding into sort_all sort_each
sort_all_arranges ∅ = refl
sort_all_arranges (t ▸ ts) = ap (insert (sort t)) (sort_all_arranges ts)

pub sort_each-⧺ : (ts us : Forest) → sort_each (ts ⧺ us) ≡ sort_each ts ⧺ sort_each us
unfolding sort_each ◌⧺◌
sort_each-⧺ ∅ us = refl
sort_each-⧺ (t ▸ ts) us = ap (λ ws. sort t ▸ ws) (sort_each-⧺ ts us)

pub count-sort_each : (ts : Forest) → count (sort_each ts) ≡ count ts
unfolding sort_each count
count-sort_each ∅ = refl
count-sort_each (t ▸ ts) = ap suc (count-sort_each ts)
