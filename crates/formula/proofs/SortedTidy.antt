-- Sorting and tidiness. Sorting keeps every limit but one: two operators that differ in the order of children become equal siblings.
-- Assumes nothing.
use mathlib.Core.Path.{◌≡◌, refl, sym, ◌∙◌, ap, ap₂, subst}
use mathlib.Core.Bool.{Bool, true, false, not, ◌&&◌, ◌||◌, cond, false≢true}
use borrow.Author.Tests.{not-true}
use Rattle.formula.specs.Tree.{Op, or, Tree, lit, node, Forest, ∅, ◌▸◌, some_child, some_two}
use Rattle.formula.specs.Tidy.{is_op, duplicate, same_variable, alone, childless, breaks, faults, faults_all, root_faults, any, is_tidy}
use Rattle.formula.specs.Order.{leads, insert, sort, sort_all, Rearranged, literal, operator, Reordered, nothing, inside, exchanged, again}
use Rattle.formula.proofs.Booleans.{join_swap, eqb_comm, and_parts, or_parts, or-none, or_exchange}
use Rattle.formula.proofs.Forests.{some_child_same, some_two_less}
use Rattle.formula.proofs.Tidy.Same.{duplicate_same, duplicate_sym, duplicate_refl}
use Rattle.formula.proofs.Tidy.Limits.{faulty, any-++}
use Rattle.formula.proofs.Sorting.{sort_rearranged, rearranged_sort, sort_idempotent, sort_exactly}
use Rattle.formula.specs.Order.{strays, astray, astray_all, nearly_tidy, siblings, siblings_all, alike}

childless_reordered : {ts us : Forest} → Reordered ts us → childless ts ≡ childless us
unfolding childless
childless_reordered nothing = refl
childless_reordered (inside r rs) = refl
childless_reordered (exchanged t u ts) = refl
childless_reordered (again r rs) = childless_reordered r ∙ childless_reordered rs

alone-▸ : (t : Tree) (ts : Forest) → alone (t ▸ ts) ≡ childless ts
unfolding alone childless
alone-▸ t ∅ = refl
alone-▸ t (u ▸ us) = refl

alone_reordered : {ts us : Forest} → Reordered ts us → alone ts ≡ alone us
unfolding alone
alone_reordered nothing = refl
alone_reordered (inside {t = t} {u = u} {ts = ts} {us = us} r rs) = alone-▸ t ts ∙ childless_reordered rs ∙ sym (alone-▸ u us)
alone_reordered (exchanged t u ts) = refl
alone_reordered (again r rs) = alone_reordered r ∙ alone_reordered rs

-- a test that trees which differ only in the order of children answer alike
some_child_reordered : {ts us : Forest} (P : Tree → Bool) → ((t u : Tree) → Rearranged t u → P t ≡ P u) → Reordered ts us
    → some_child P ts ≡ some_child P us
unfolding some_child
some_child_reordered P h nothing = refl
some_child_reordered P h (inside {t = t} {u = u} r rs) = ap₂ ◌||◌ (h t u r) (some_child_reordered P h rs)
some_child_reordered P h (exchanged t u ts) = join_swap or (P t) (P u) (some_child P ts)
some_child_reordered P h (again r rs) = some_child_reordered P h r ∙ some_child_reordered P h rs

-- a relation that is symmetric, and does not see the order of children, between children in any order
record Blind (R : Tree → Tree → Bool) : Type 0 where
  turns : (t u : Tree) → R t u ≡ R u t
  blind : (w t u : Tree) → Rearranged t u → R t w ≡ R u w

blind_right : {R : Tree → Tree → Bool} → Blind R → (w t u : Tree) → Rearranged t u → R w t ≡ R w u
blind_right b w t u r = b.turns w t ∙ b.blind w t u r ∙ b.turns u w

some_two_reordered : {R : Tree → Tree → Bool} {ts us : Forest} → Blind R → Reordered ts us → some_two R ts ≡ some_two R us
unfolding some_two some_child
some_two_reordered b nothing = refl
some_two_reordered {R} b (inside {t = t} {u = u} {ts = ts} r rs) =
    ap₂ ◌||◌ (some_child_same (λ w. b.blind w t u r) ts ∙ some_child_reordered (R u) (blind_right b u) rs) (some_two_reordered b rs)
some_two_reordered {R} b (exchanged t u ts) =
    ap (λ c. (c || some_child (R t) ts) || (some_child (R u) ts || some_two R ts)) (b.turns t u) ∙
    or_exchange (R u t) (some_child (R t) ts) (some_child (R u) ts) (some_two R ts)
some_two_reordered b (again r rs) = some_two_reordered b r ∙ some_two_reordered b rs

same_variable_blind : Blind same_variable
unfolding same_variable
same_variable_blind = record { turns = same-variable-sym; blind = λ w t u r. same-variable-left w r }
  where
    same-variable-left : (w : Tree) {t u : Tree} → Rearranged t u → same_variable t w ≡ same_variable u w
    same-variable-left w (literal s v) = refl
    same-variable-left w (operator o r) = refl

    same-variable-sym : (t u : Tree) → same_variable t u ≡ same_variable u t
    same-variable-sym (lit s v) (lit s' v') = eqb_comm v v'
    same-variable-sym (lit s v) (node o us) = refl
    same-variable-sym (node o ts) (lit s v) = refl
    same-variable-sym (node o ts) (node k us) = refl

is_op_rearranged : (o : Op) (t u : Tree) → Rearranged t u → is_op o t ≡ is_op o u
unfolding is_op
is_op_rearranged o t u (literal s v) = refl
is_op_rearranged o t u (operator k r) = refl

-- every limit but that on equal siblings: sorting keeps it

strays_reordered : (o : Op) {ts us : Forest} → Reordered ts us → strays o ts ≡ strays o us
unfolding strays
strays_reordered o r =
    ap₂ ◌||◌ (ap₂ ◌||◌ (alone_reordered r) (some_child_reordered (is_op o) (is_op_rearranged o) r)) (some_two_reordered same_variable_blind r)

mutual
  unfolding astray

  astray_rearranged : {t u : Tree} → Rearranged t u → astray t ≡ astray u
  astray_rearranged (literal s v) = refl
  astray_rearranged (operator o r) = ap₂ ◌||◌ (ap₂ ◌||◌ (childless_reordered r) (strays_reordered o r)) (astray_reordered r)

  astray_reordered : {ts us : Forest} → Reordered ts us → astray_all ts ≡ astray_all us
  astray_reordered nothing = refl
  astray_reordered (inside r rs) = ap₂ ◌||◌ (astray_rearranged r) (astray_reordered rs)
  astray_reordered (exchanged t u ts) = join_swap or (astray t) (astray u) (astray_all ts)
  astray_reordered (again r rs) = astray_reordered r ∙ astray_reordered rs

pub nearly_tidy_rearranged : {t u : Tree} → Rearranged t u → nearly_tidy t ≡ nearly_tidy u
unfolding nearly_tidy
nearly_tidy_rearranged (literal s v) = refl
nearly_tidy_rearranged (operator o r) = ap not (ap₂ ◌||◌ (strays_reordered o r) (astray_reordered r))

pub nearly_tidy-sort : (t : Tree) → nearly_tidy (sort t) ≡ nearly_tidy t
nearly_tidy-sort t = sym (nearly_tidy_rearranged (rearranged_sort t))

-- two siblings in a relation, somewhere in a tree

-- tidy: nearly so, and no two operators that are siblings are equal

mutual
  unfolding faults any astray siblings breaks strays

  faulty_parts : (t : Tree) → faulty t ≡ (astray t || siblings duplicate t)
  faulty_parts (lit s v) = refl
  faulty_parts (node o ts) =
      ap (λ b. (childless ts || breaks o ts) || b) (faulty_parts_all ts) ∙
      mixed (childless ts) (strays o ts) (some_two duplicate ts) (astray_all ts) (siblings_all duplicate ts)
    where
      mixed : (a b c d e : Bool) → ((a || (b || c)) || (d || e)) ≡ (((a || b) || d) || (c || e))
      mixed true b c d e = refl
      mixed false true c d e = refl
      mixed false false true true e = refl
      mixed false false true false e = refl
      mixed false false false d e = refl

  faulty_parts_all : (ts : Forest) → any (faults_all ts) ≡ (astray_all ts || siblings_all duplicate ts)
  faulty_parts_all ∅ = refl
  faulty_parts_all (t ▸ ts) =
      any-++ (faults t) (faults_all ts) ∙ ap₂ ◌||◌ (faulty_parts t) (faulty_parts_all ts) ∙
      or_exchange (astray t) (siblings duplicate t) (astray_all ts) (siblings_all duplicate ts)

pub is_tidy_parts : (t : Tree) → is_tidy t ≡ (nearly_tidy t && not (siblings duplicate t))
unfolding is_tidy root_faults any nearly_tidy siblings breaks strays
is_tidy_parts (lit s v) = refl
is_tidy_parts (node o ts) =
    ap (λ b. not (breaks o ts || b)) (faulty_parts_all ts) ∙ mixed (strays o ts) (some_two duplicate ts) (astray_all ts) (siblings_all duplicate ts)
  where
    mixed : (a b c d : Bool) → not ((a || b) || (c || d)) ≡ (not (a || c) && not (b || d))
    mixed true b c d = refl
    mixed false true true d = refl
    mixed false true false d = refl
    mixed false false true d = refl
    mixed false false false d = refl

-- operators that differ only in the order of children: sorted, they are equal

pub alike_rearranged : (t u : Tree) → alike t u ≡ true → Rearranged t u
unfolding alike
alike_rearranged t u e = (sort_exactly t u).0 (duplicate_same (sort t) (sort u) e)

alike_blind : Blind alike
unfolding alike
alike_blind =
    record {
      turns = λ t u. duplicate_sym (sort t) (sort u);
      blind = λ w t u r. ap (λ x. duplicate x (sort w)) (sort_rearranged r);
    }

mutual
  unfolding siblings

  siblings_rearranged : {R : Tree → Tree → Bool} {t u : Tree} → Blind R → Rearranged t u → siblings R t ≡ siblings R u
  siblings_rearranged b (literal s v) = refl
  siblings_rearranged b (operator o r) = ap₂ ◌||◌ (some_two_reordered b r) (siblings_reordered b r)

  siblings_reordered : {R : Tree → Tree → Bool} {ts us : Forest} → Blind R → Reordered ts us → siblings_all R ts ≡ siblings_all R us
  siblings_reordered b nothing = refl
  siblings_reordered b (inside r rs) = ap₂ ◌||◌ (siblings_rearranged b r) (siblings_reordered b rs)
  siblings_reordered {R} b (exchanged t u ts) = join_swap or (siblings R t) (siblings R u) (siblings_all R ts)
  siblings_reordered b (again r rs) = siblings_reordered b r ∙ siblings_reordered b rs

-- the children of a sorted tree are sorted

data Settled : Forest → Type 0 where
  none_there : Settled ∅
  one_there : {t : Tree} {ts : Forest} → sort t ≡ t → Settled ts → Settled (t ▸ ts)

settled-insert : (t : Tree) (ts : Forest) → sort t ≡ t → Settled ts → Settled (insert t ts)
unfolding insert
settled-insert t ∅ e none_there = one_there e none_there
settled-insert t (u ▸ us) e (one_there h hs) = by (leads t u) (settled-insert t us e hs)
  where
    by : (b : Bool) → Settled (insert t us) → Settled (cond b (t ▸ u ▸ us) (u ▸ insert t us))
    by true rest = one_there e (one_there h hs)
    by false rest = one_there h rest

settled-sort : (ts : Forest) → Settled (sort_all ts)
unfolding sort
settled-sort ∅ = none_there
settled-sort (t ▸ ts) = settled-insert (sort t) (sort_all ts) (sort_idempotent t) (settled-sort ts)

kids : Tree → Forest
kids (lit s v) = ∅
kids (node o ts) = ts

settled-below : (o : Op) (ts : Forest) → sort (node o ts) ≡ node o ts → Settled ts
unfolding sort kids
settled-below o ts e = subst Settled (ap kids e) (settled-sort ts)

-- where they are, alike is equal

child_settled : (t : Tree) → sort t ≡ t → (ts : Forest) → Settled ts → some_child (alike t) ts ≡ some_child (duplicate t) ts
unfolding some_child alike
child_settled t e ∅ none_there = refl
child_settled t e (u ▸ us) (one_there h hs) = ap₂ ◌||◌ (ap₂ duplicate e h) (child_settled t e us hs)

two_settled : (ts : Forest) → Settled ts → some_two alike ts ≡ some_two duplicate ts
unfolding some_two
two_settled ∅ none_there = refl
two_settled (t ▸ ts) (one_there e es) = ap₂ ◌||◌ (child_settled t e ts es) (two_settled ts es)

mutual
  unfolding siblings

  siblings-settled : (t : Tree) → sort t ≡ t → siblings alike t ≡ siblings duplicate t
  siblings-settled (lit s v) e = refl
  siblings-settled (node o ts) e = let h = settled-below o ts e in ap₂ ◌||◌ (two_settled ts h) (siblings-settled-all ts h)

  siblings-settled-all : (ts : Forest) → Settled ts → siblings_all alike ts ≡ siblings_all duplicate ts
  siblings-settled-all ∅ none_there = refl
  siblings-settled-all (t ▸ ts) (one_there e es) = ap₂ ◌||◌ (siblings-settled t e) (siblings-settled-all ts es)

pub siblings-sort : (t : Tree) → siblings duplicate (sort t) ≡ siblings alike t
siblings-sort t = sym (siblings-settled (sort t) (sort_idempotent t)) ∙ sym (siblings_rearranged alike_blind (rearranged_sort t))

-- A sorted tree is tidy exactly if the tree keeps the other limits and no two of its operators that are siblings differ only in the order of children.
pub is_tidy-sort : (t : Tree) → is_tidy (sort t) ≡ (nearly_tidy t && not (siblings alike t))
is_tidy-sort t = is_tidy_parts (sort t) ∙ ap₂ (λ a b. a && not b) (nearly_tidy-sort t) (siblings-sort t)

-- equal operators are alike, so a tree is tidy if its sorted tree is

duplicate-alike : (t u : Tree) → duplicate t u ≡ true → alike t u ≡ true
unfolding alike duplicate sort
duplicate-alike (lit s v) u e = absurd (false≢true e)
duplicate-alike (node o ts) u e = ap (λ x. duplicate (sort (node o ts)) (sort x)) (sym (duplicate_same (node o ts) u e)) ∙ duplicate_refl o (sort_all ts)

unlike : (t u : Tree) → alike t u ≡ false → duplicate t u ≡ false
unlike t u e = by (duplicate t u) refl
  where
    by : (b : Bool) → duplicate t u ≡ b → b ≡ false
    by true q = sym (duplicate-alike t u q) ∙ e
    by false q = refl

mutual
  unfolding siblings

  alike_less : (t : Tree) → siblings alike t ≡ false → siblings duplicate t ≡ false
  alike_less (lit s v) e = refl
  alike_less (node o ts) e =
      let (here, below) = or_parts (some_two alike ts) _ e in
      or-none (some_two_less alike duplicate unlike ts here) (alike_less_all ts below)

  alike_less_all : (ts : Forest) → siblings_all alike ts ≡ false → siblings_all duplicate ts ≡ false
  alike_less_all ∅ e = refl
  alike_less_all (t ▸ ts) e =
      let (at-t, at-ts) = or_parts (siblings alike t) _ e in
      or-none (alike_less t at-t) (alike_less_all ts at-ts)

pub tidy_unsorted : (t : Tree) → is_tidy (sort t) ≡ true → is_tidy t ≡ true
tidy_unsorted t e =
    let (near, none) = and_parts (nearly_tidy t) _ (sym (is_tidy-sort t) ∙ e) in
    is_tidy_parts t ∙ ap₂ (λ a b. a && not b) near (alike_less t (not-true (siblings alike t) none))
