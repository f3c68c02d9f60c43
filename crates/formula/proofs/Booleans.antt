-- Laws of `join`, the one operation behind AND, OR and both quantifiers, of the order false before true, and of tests.
-- Assumes nothing.
use mathlib.Core.Path.{◌≡◌, refl, sym, ◌∙◌, ap}
use mathlib.Core.Bool.{Bool, true, false, not, ◌&&◌, ◌||◌, cond, beq, true≢false, false≢true}
use mathlib.Core.Bool.{and_comm, or_comm, and_assoc, or_assoc, and_self, or_self, and-true, or-false, and-false, or-true}
use mathlib.Core.Bool.{and-or_distrib_right, or-and_distrib_right}
use mathlib.Core.Logic.{◌⊎◌, inl, inr}
use Prim.Native.Nat.{ℕ}
use lib.Dec.{eqb}
use borrow.Author.Tests.{eqb-true, eqb-false, eq-eqb, ne_eqb}
use Rattle.formula.specs.Tree.{Op, and, or, dual, Quantifier, same_op, exists, for_all}
use Rattle.formula.specs.Truth.{join, unit, Leads}
use Rattle.formula.specs.Settle.{value}

pub join_comm : (o : Op) (a b : Bool) → join o a b ≡ join o b a
join_comm and a b = and_comm a b
join_comm or a b = or_comm a b

pub join_assoc : (o : Op) (a b c : Bool) → join o (join o a b) c ≡ join o a (join o b c)
join_assoc and a b c = and_assoc a b c
join_assoc or a b c = or_assoc a b c

pub join_self : (o : Op) (a : Bool) → join o a a ≡ a
join_self and a = and_self a
join_self or a = or_self a

pub join-unit : (o : Op) (a : Bool) → join o a (unit o) ≡ a
join-unit and a = and-true a
join-unit or a = or-false a

pub unit-join : (o : Op) (a : Bool) → join o (unit o) a ≡ a
unit-join and a = refl
unit-join or a = refl

pub join_twice : (o : Op) (a b : Bool) → join o a (join o a b) ≡ join o a b
join_twice o a b = sym (join_assoc o a a b) ∙ ap (λ (c : Bool). join o c b) (join_self o a)

pub join_swap : (o : Op) (a b c : Bool) → join o a (join o b c) ≡ join o b (join o a c)
join_swap o a b c = sym (join_assoc o a b c) ∙ ap (λ (d : Bool). join o d c) (join_comm o a b) ∙ join_assoc o b a c

-- the dual operator's unit absorbs
pub join-zero : (o : Op) (a : Bool) → join o a (unit (dual o)) ≡ unit (dual o)
join-zero and a = and-false a
join-zero or a = or-true a

pub zero-join : (o : Op) (a : Bool) → join o (unit (dual o)) a ≡ unit (dual o)
zero-join and a = refl
zero-join or a = refl

-- what two joined values share can be taken out of them, under either operator
pub join_share : (q o : Op) (a b c : Bool) → join q (join o a c) (join o b c) ≡ join o (join q a b) c
join_share and and true true c = and_self c
join_share and and true false c = and-false c
join_share and and false b c = refl
join_share and or a b c = sym (or-and_distrib_right a b c)
join_share or and a b c = sym (and-or_distrib_right a b c)
join_share or or true b c = refl
join_share or or false true c = or-true c
join_share or or false false c = or_self c

pub share_join : (q o : Op) (c a b : Bool) → join q (join o c a) (join o c b) ≡ join o c (join q a b)
share_join q o c a b = rw (join_comm o c a, join_comm o c b, join_comm o c (join q a b)) (join_share q o a b c)

pub false_leads : {a b : Bool} → a ≡ false → Leads a b
false_leads e h = absurd (false≢true (sym e ∙ h))

pub leads_eq : {a b : Bool} → a ≡ b → Leads a b
leads_eq e h = sym e ∙ h

-- the order is antisymmetric
pub leads-both : (a b : Bool) → Leads a b → Leads b a → a ≡ b
leads-both true b h k = sym (h refl)
leads-both false true h k = k refl
leads-both false false h k = refl

pub join-leads : (o : Op) (a b c d : Bool) → Leads a b → Leads c d → Leads (join o a c) (join o b d)
join-leads and true b c d h k e = rw (h refl, k e)
join-leads and false b c d h k e = absurd (false≢true e)
join-leads or true b c d h k e = rw (h refl)
join-leads or false b c d h k e = rw (k e) (or-true b)

-- of two values of which one leads to the other, exists takes the later and for all the earlier
or-leads : (a b : Bool) → Leads a b → (a || b) ≡ b
or-leads true b h = sym (h refl)
or-leads false b h = refl

and-leads : (a b : Bool) → Leads a b → (a && b) ≡ a
and-leads true b h = h refl
and-leads false b h = refl

-- the two-by-two table is right wherever the sign's value is the better one
pub join-value : (q : Quantifier) (s : Bool) (B : Bool → Bool) → Leads (B (not s)) (B s) → join q (B false) (B true) ≡ B (value q s)
unfolding value
join-value or true B h = or-leads (B false) (B true) h
join-value or false B h = or_comm (B false) (B true) ∙ or-leads (B true) (B false) h
join-value and true B h = and-leads (B false) (B true) h
join-value and false B h = and_comm (B false) (B true) ∙ and-leads (B true) (B false) h

-- tests joined by && and ||
pub and_parts : (a b : Bool) → (a && b) ≡ true → (a ≡ true) × (b ≡ true)
and_parts true b h = (refl, h)
and_parts false b h = absurd (false≢true h)

pub or_parts : (a b : Bool) → (a || b) ≡ false → (a ≡ false) × (b ≡ false)
or_parts true b h = absurd (true≢false h)
or_parts false b h = (refl, h)

pub or-none : {a b : Bool} → a ≡ false → b ≡ false → (a || b) ≡ false
or-none p q = simp (p, q)

pub or_cases : (a b : Bool) → (a || b) ≡ true → (a ≡ true) ⊎ (b ≡ true)
or_cases true b h = inl refl
or_cases false b h = inr h

pub or_swap : (a b c : Bool) → (a || (b || c)) ≡ (b || (a || c))
or_swap true true c = refl
or_swap true false c = refl
or_swap false b c = refl

pub or_exchange : (a b c d : Bool) → ((a || b) || (c || d)) ≡ ((a || c) || (b || d))
or_exchange true b c d = refl
or_exchange false true true d = refl
or_exchange false true false d = refl
or_exchange false false c d = refl

pub or_later : (a : Bool) {b : Bool} → b ≡ true → (a || b) ≡ true
or_later true h = refl
or_later false h = h

-- a case on a computed test
pub by_cases : {A : Type 0} (b : Bool) → (b ≡ true → A) → (b ≡ false → A) → A
by_cases true f g = f refl
by_cases false f g = g refl

-- both branches of a test
pub cond_cases : {A : Type 0} (C : A → Type 0) (b : Bool) {x y : A} → (b ≡ true → C x) → (b ≡ false → C y) → C (cond b x y)
cond_cases C true f g = f refl
cond_cases C false f g = g refl

-- equality of truth values
pub beq_refl : (a : Bool) → beq a a ≡ true
beq_refl true = refl
beq_refl false = refl

pub beq_same : (a b : Bool) → beq a b ≡ true → a ≡ b
beq_same true true e = refl
beq_same true false e = cc
beq_same false true e = cc
beq_same false false e = refl

-- equality of numbers, asked the other way round
pub eqb_comm : (a b : ℕ) → eqb a b ≡ eqb b a
eqb_comm a b =
    by_cases (eqb a b) (λ e. e ∙ sym (eq-eqb b a (sym (eqb-true a b e)))) (λ e. e ∙ sym (ne_eqb b a (λ p. eqb-false a b e (sym p))))

-- equality of operators
pub same_op_eq : (o k : Op) → same_op o k ≡ true → o ≡ k
same_op_eq and and h = refl
same_op_eq and or h = absurd (false≢true h)
same_op_eq or and h = absurd (false≢true h)
same_op_eq or or h = refl

pub same_op_refl : (o : Op) → same_op o o ≡ true
same_op_refl and = refl
same_op_refl or = refl

-- quantifiers are equal exactly if both or none are existential
pub same_op-exists : (q z : Quantifier) → same_op q z ≡ beq (same_op exists q) (same_op exists z)
same_op-exists and and = refl
same_op-exists and or = refl
same_op-exists or and = refl
same_op-exists or or = refl

pub is_for_all : (q : Quantifier) → same_op exists q ≡ false → for_all ≡ q
is_for_all and e = refl
is_for_all or e = absurd (true≢false e)
