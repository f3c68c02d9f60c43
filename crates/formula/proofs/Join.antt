-- A verdict joined from answers is the truth if each answer known is; it stays whatever the unknown ones turn out to be; and where there is
-- none, they decide it either way.
-- Assumes nothing.
use mathlib.Core.Path.{◌≡◌, refl, sym, ◌∙◌, ap, ap₂, subst}
use mathlib.Core.Bool.{Bool, true, false, not, ◌&&◌, ◌||◌, cond, and-false, or-true, true≢false}
use mathlib.Core.List.{List, [], ◌∷◌, ◌++◌}
use mathlib.Core.Option.{none, some}
use Prim.Native.Nat.{ℕ, zero, suc, ◌^◌, ◌≤◌}
use native.Mathlib.Omega.{arith}
use lib.ListN.{length, take, drop, length-take, length-drop, take-append-drop}
use borrow.Author.Tests.{not-true}
use Rattle.formula.specs.Tree.{Quantifier, and, or, exists, for_all, Tree, lit, node, ∅, ◌▸◌, Binding, Prefix, Formula, binds, distinct, assign}
use Rattle.formula.specs.Truth.{join, unit, truth}
use Rattle.formula.specs.Trial.{stops_at}
use Rattle.formula.specs.Force.{given_by, given}
use Rattle.formula.specs.Join.{Answer, if_stops, weigh, joined, join_answers, answer_for, TurnedOut, no_answer, as_before, now_known, all_known, TurnsOut}
use Rattle.formula.proofs.Booleans.{join_self, join-unit, unit-join, and_parts}
use Rattle.formula.proofs.Splitting.{truth_splits}

-- an answer stays known
abbrev Stays : Answer → Answer → Type 0
Stays a a' = (v : Bool) → a ≡ some v → a' ≡ some v

-- of two truths

weigh-truth : (q : Quantifier) (a b : Answer) (t₀ t₁ : Bool) → ((v : Bool) → a ≡ some v → v ≡ t₀) → ((v : Bool) → b ≡ some v → v ≡ t₁)
    → (v : Bool) → weigh q a b ≡ some v → v ≡ join q t₀ t₁
unfolding weigh if_stops
weigh-truth q none none t₀ t₁ h k v e = let z : ◌≡◌ {A = Bool} true false = cc in absurd (true≢false z)
weigh-truth and none (some true) t₀ t₁ h k v e = let z : ◌≡◌ {A = Bool} true false = cc in absurd (true≢false z)
weigh-truth and none (some false) t₀ t₁ h k v e =
    let same : false ≡ v = cc in sym same ∙ sym (and-false t₀) ∙ ap (◌&&◌ t₀) (k false refl)
weigh-truth or none (some true) t₀ t₁ h k v e =
    let same : true ≡ v = cc in sym same ∙ sym (or-true t₀) ∙ ap (◌||◌ t₀) (k true refl)
weigh-truth or none (some false) t₀ t₁ h k v e = let z : ◌≡◌ {A = Bool} true false = cc in absurd (true≢false z)
weigh-truth and (some true) none t₀ t₁ h k v e = let z : ◌≡◌ {A = Bool} true false = cc in absurd (true≢false z)
weigh-truth and (some false) none t₀ t₁ h k v e = let same : false ≡ v = cc in sym same ∙ ap (λ (b : Bool). b && t₁) (h false refl)
weigh-truth or (some true) none t₀ t₁ h k v e = let same : true ≡ v = cc in sym same ∙ ap (λ (b : Bool). b || t₁) (h true refl)
weigh-truth or (some false) none t₀ t₁ h k v e = let z : ◌≡◌ {A = Bool} true false = cc in absurd (true≢false z)
weigh-truth q (some a) (some b) t₀ t₁ h k v e =
    let same : join q a b ≡ v = cc in sym same ∙ ap₂ (join q) (h a refl) (k b refl)

-- answers that turn out

-- what ends a split early does so whatever the other half says
stops_second : (q : Quantifier) (a : Answer) → weigh q a (some (stops_at q)) ≡ some (stops_at q)
unfolding weigh if_stops
stops_second and none = refl
stops_second and (some a) = ap some (and-false a)
stops_second or none = refl
stops_second or (some a) = ap some (or-true a)

stops_first : (q : Quantifier) (b : Answer) → weigh q (some (stops_at q)) b ≡ some (stops_at q)
unfolding weigh if_stops
stops_first and none = refl
stops_first and (some b) = refl
stops_first or none = refl
stops_first or (some b) = refl

stopped_early : (q : Quantifier) (b v : Bool) → if_stops q b ≡ some v → (b ≡ stops_at q) × (v ≡ stops_at q)
unfolding if_stops
stopped_early and true v e = let z : ◌≡◌ {A = Bool} true false = cc in absurd (true≢false z)
stopped_early and false v e = (refl, cc)
stopped_early or true v e = (refl, cc)
stopped_early or false v e = let z : ◌≡◌ {A = Bool} true false = cc in absurd (true≢false z)

weigh-stays : (q : Quantifier) (a b a' b' : Answer) → Stays a a' → Stays b b' → Stays (weigh q a b) (weigh q a' b')
unfolding weigh
weigh-stays q none none a' b' h k v e = let z : ◌≡◌ {A = Bool} true false = cc in absurd (true≢false z)
weigh-stays q none (some b) a' b' h k v e =
    let early = stopped_early q b v e in
    ap (weigh q a') (k b refl ∙ ap some early.0) ∙ stops_second q a' ∙ ap some (sym early.1)
weigh-stays q (some a) none a' b' h k v e =
    let early = stopped_early q a v e in
    ap (λ (x : Answer). weigh q x b') (h a refl ∙ ap some early.0) ∙ stops_first q b' ∙ ap some (sym early.1)
weigh-stays q (some a) (some b) a' b' h k v e = ap₂ (weigh q) (h a refl) (k b refl) ∙ e

turned-take : (n : ℕ) {xs ys : List Answer} → TurnedOut xs ys → TurnedOut (take n xs) (take n ys)
turned-take zero t = no_answer
turned-take (suc n) no_answer = no_answer
turned-take (suc n) (as_before a t) = as_before a (turned-take n t)
turned-take (suc n) (now_known b t) = now_known b (turned-take n t)

turned-drop : (n : ℕ) {xs ys : List Answer} → TurnedOut xs ys → TurnedOut (drop n xs) (drop n ys)
turned-drop zero t = t
turned-drop (suc n) no_answer = no_answer
turned-drop (suc n) (as_before a t) = turned-drop n t
turned-drop (suc n) (now_known b t) = turned-drop n t

-- a verdict stays
pub joined-stays : (p : Prefix) {xs ys : List Answer} → TurnedOut xs ys → (v : Bool) → joined p xs ≡ some v → joined p ys ≡ some v
unfolding joined
joined-stays [] no_answer v e = e
joined-stays [] (as_before a t) v e = e
joined-stays [] (now_known b t) v e = let z : ◌≡◌ {A = Bool} true false = cc in absurd (true≢false z)
joined-stays (z ∷ p) {xs} {ys} t v e =
    weigh-stays z.quantifier (joined p (take (2 ^ length p) xs)) (joined p (drop (2 ^ length p) xs))
    (joined p (take (2 ^ length p) ys)) (joined p (drop (2 ^ length p) ys)) (joined-stays p (turned-take (2 ^ length p) t))
    (joined-stays p (turned-drop (2 ^ length p) t)) v e

pub join-stays : (k : ℕ) (f : Formula) {xs ys : List Answer} → TurnedOut xs ys → (v : Bool) → join_answers k f xs ≡ some v
    → join_answers k f ys ≡ some v
unfolding join_answers
join-stays k f t v e = joined-stays (take k f.prefix) t v e

-- a verdict is the truth

length_taken : (k : ℕ) (p : Prefix) → k ≤ length p → length (take k p) ≡ k
length_taken zero p h = refl
length_taken (suc k) [] h = absurd (omega arith)
length_taken (suc k) (z ∷ p) h = ap suc (length_taken k p (omega arith))

joined-truth : (k : ℕ) (p : Prefix) (t : Tree) (xs : List Answer) → distinct p ≡ true → k ≤ length p
    → ((bs : List Bool) (v : Bool) → length bs ≡ k → answer_for bs xs ≡ some v → v ≡ truth (given_by bs p t))
    → (v : Bool) → joined (take k p) xs ≡ some v → v ≡ truth (record { prefix = p; matrix = t })
unfolding joined answer_for given_by distinct
joined-truth zero p t [] d h right v e = let z : ◌≡◌ {A = Bool} true false = cc in absurd (true≢false z)
joined-truth zero p t (a ∷ xs) d h right v e = right [] v refl e
joined-truth (suc k) [] t xs d h right v e = absurd (omega arith)
joined-truth (suc k) (z ∷ p) t xs d h right v e =
    weigh-truth z.quantifier (joined (take k p) (take size xs)) (joined (take k p) (drop size xs)) (truth (row false)) (truth (row true))
    (joined-truth k p (assign z.variable false t) (take size xs) parts.1 (omega arith) (half false))
    (joined-truth k p (assign z.variable true t) (drop size xs) parts.1 (omega arith) (half true)) v e ∙
    sym (truth_splits z p t (not-true (binds p z.variable) parts.0))
  where
    size : ℕ
    size = 2 ^ length (take k p)

    parts : (not (binds p z.variable) ≡ true) × (distinct p ≡ true)
    parts = and_parts (not (binds p z.variable)) (distinct p) d

    row : Bool → Formula
    row b = record { prefix = p; matrix = assign z.variable b t }

    half : (b : Bool) (bs : List Bool) (v : Bool) → length bs ≡ k → answer_for bs (cond b (drop size xs) (take size xs)) ≡ some v
        → v ≡ truth (given_by bs p (assign z.variable b t))
    half b bs v l g = right (b ∷ bs) v (ap suc l) (ap (λ (n : ℕ). answer_for bs (cond b (drop (2 ^ n) xs) (take (2 ^ n) xs))) same ∙ g)
      where
        same : length bs ≡ length (take k p)
        same = l ∙ sym (length_taken k p (omega arith))

pub join-truth : (k : ℕ) (f : Formula) (xs : List Answer) → distinct f.prefix ≡ true → k ≤ length f.prefix
    → ((bs : List Bool) (v : Bool) → length bs ≡ k → answer_for bs xs ≡ some v → v ≡ truth (given bs f))
    → (v : Bool) → join_answers k f xs ≡ some v → v ≡ truth f
unfolding join_answers
join-truth k f xs d h right v e = joined-truth k f.prefix f.matrix xs d h right v e

-- no verdict: the unknown answers decide it either way

-- all answers known, with this verdict
record Complete (p : Prefix) (xs : List Answer) (b : Bool) : Type 0 where
  answers : List Answer
  turned : TurnedOut xs answers
  known : all_known answers ≡ true
  verdict : joined p answers ≡ some b

length-turned : {xs ys : List Answer} → TurnedOut xs ys → length ys ≡ length xs
length-turned no_answer = refl
length-turned (as_before a t) = ap suc (length-turned t)
length-turned (now_known b t) = ap suc (length-turned t)

turned-++ : {xs ys us ws : List Answer} → TurnedOut xs ys → TurnedOut us ws → TurnedOut (xs ++ us) (ys ++ ws)
turned-++ no_answer u = u
turned-++ (as_before a t) u = as_before a (turned-++ t u)
turned-++ (now_known b t) u = now_known b (turned-++ t u)

known-++ : (xs ys : List Answer) → all_known xs ≡ true → all_known ys ≡ true → all_known (xs ++ ys) ≡ true
unfolding all_known
known-++ [] ys h k = k
known-++ (none ∷ xs) ys h k = absurd (true≢false (sym h))
known-++ (some b ∷ xs) ys h k = known-++ xs ys h k

take-front : (n : ℕ) (xs ys : List Answer) → length xs ≡ n → take n (xs ++ ys) ≡ xs
take-front zero [] ys h = refl
take-front zero (a ∷ xs) ys h = absurd (omega arith)
take-front (suc n) [] ys h = absurd (omega arith)
take-front (suc n) (a ∷ xs) ys h = ap (λ (us : List Answer). a ∷ us) (take-front n xs ys (omega arith))

drop-front : (n : ℕ) (xs ys : List Answer) → length xs ≡ n → drop n (xs ++ ys) ≡ ys
drop-front zero [] ys h = refl
drop-front zero (a ∷ xs) ys h = absurd (omega arith)
drop-front (suc n) [] ys h = absurd (omega arith)
drop-front (suc n) (a ∷ xs) ys h = drop-front n xs ys (omega arith)

-- false for every unknown answer
filled : (xs : List Answer) → (ys : List Answer) × TurnedOut xs ys × (all_known ys ≡ true)
unfolding all_known
filled [] = ([], no_answer, refl)
filled (none ∷ xs) = let r = filled xs in (some false ∷ r.0, now_known false r.1, r.2)
filled (some b ∷ xs) = let r = filled xs in (some b ∷ r.0, as_before (some b) r.1, r.2)

complete : (p : Prefix) (xs : List Answer) (b : Bool) → joined p xs ≡ some b → Complete p xs b
complete p xs b e =
    let r = filled xs in
    record { answers = r.0; turned = r.1; known = r.2; verdict = joined-stays p r.1 b e }

-- half of the answers each
length-halves : (n : ℕ) (xs : List Answer) → length xs ≡ 2 ^ suc n → (length (take (2 ^ n) xs) ≡ 2 ^ n) × (length (drop (2 ^ n) xs) ≡ 2 ^ n)
length-halves n xs l = (omega (arith, length-take (2 ^ n) xs), omega (arith, length-drop (2 ^ n) xs))

-- both halves complete
both_complete : (z : Binding) (p : Prefix) (xs : List Answer) (a b : Bool) → length xs ≡ 2 ^ suc (length p)
    → Complete p (take (2 ^ length p) xs) a → Complete p (drop (2 ^ length p) xs) b → Complete (z ∷ p) xs (join z.quantifier a b)
unfolding joined weigh
both_complete z p xs a b l c₀ c₁ =
    record {
      answers = c₀.answers ++ c₁.answers;
      turned =
          subst (λ (us : List Answer). TurnedOut us (c₀.answers ++ c₁.answers)) (take-append-drop n xs) (turned-++ c₀.turned c₁.turned);
      known = known-++ c₀.answers c₁.answers c₀.known c₁.known;
      verdict =
          ap₂ (weigh z.quantifier) (ap (joined p) (take-front n c₀.answers c₁.answers front) ∙ c₀.verdict)
          (ap (joined p) (drop-front n c₀.answers c₁.answers front) ∙ c₁.verdict);
    }
  where
    n : ℕ
    n = 2 ^ length p

    front : length c₀.answers ≡ n
    front = length-turned c₀.turned ∙ (length-halves (length p) xs l).0

unstopped : (q : Quantifier) (b : Bool) → if_stops q b ≡ none → b ≡ unit q
unfolding if_stops
unstopped and true e = refl
unstopped and false e = let z : ◌≡◌ {A = Bool} true false = cc in absurd (true≢false z)
unstopped or true e = let z : ◌≡◌ {A = Bool} true false = cc in absurd (true≢false z)
unstopped or false e = refl

either_way : (p : Prefix) (xs : List Answer) → length xs ≡ 2 ^ length p → joined p xs ≡ none → (b : Bool) → Complete p xs b
unfolding joined all_known weigh
either_way [] [] l e b = absurd (omega arith)
either_way [] (a ∷ c ∷ xs) l e b = absurd (omega arith)
either_way [] (none ∷ []) l e b = record { answers = some b ∷ []; turned = now_known b no_answer; known = refl; verdict = refl }
either_way [] (some c ∷ []) l e b = let z : ◌≡◌ {A = Bool} true false = cc in absurd (true≢false z)
either_way (z ∷ p) xs l e b =
    by (joined p (take n xs)) (joined p (drop n xs)) refl refl e
    (λ k c. either_way p (take n xs) (length-halves (length p) xs l).0 k c)
    (λ k c. either_way p (drop n xs) (length-halves (length p) xs l).1 k c)
  where
    n : ℕ
    n = 2 ^ length p

    q : Quantifier
    q = z.quantifier

    to-b : (c : Bool) → c ≡ b → Complete (z ∷ p) xs c → Complete (z ∷ p) xs b
    to-b c same r = subst (λ (d : Bool). Complete (z ∷ p) xs d) same r

    by : (u w : Answer) → joined p (take n xs) ≡ u → joined p (drop n xs) ≡ w → weigh q u w ≡ none
        → (joined p (take n xs) ≡ none → (c : Bool) → Complete p (take n xs) c)
        → (joined p (drop n xs) ≡ none → (c : Bool) → Complete p (drop n xs) c) → Complete (z ∷ p) xs b
    by none none h k g f₀ f₁ = to-b (join q b b) (join_self q b) (both_complete z p xs b b l (f₀ h b) (f₁ k b))
    by none (some c) h k g f₀ f₁ =
        to-b (join q b c) (ap (join q b) (unstopped q c g) ∙ join-unit q b) (both_complete z p xs b c l (f₀ h b) (complete p (drop n xs) c k))
    by (some c) none h k g f₀ f₁ =
        to-b (join q c b) (ap (λ (d : Bool). join q d b) (unstopped q c g) ∙ unit-join q b) (both_complete z p xs c b l (complete p (take n xs) c h) (f₁ k b))
    by (some c) (some d) h k g f₀ f₁ = let z : ◌≡◌ {A = Bool} true false = cc in absurd (true≢false z)

pub join_either : (k : ℕ) (f : Formula) (xs : List Answer) → k ≤ length f.prefix → length xs ≡ 2 ^ k → join_answers k f xs ≡ none
    → (b : Bool) → TurnsOut k f xs b
unfolding join_answers
join_either k f xs h l e b =
    let c = either_way (take k f.prefix) xs (l ∙ ap (λ (n : ℕ). 2 ^ n) (sym (length_taken k f.prefix h))) e b in
    record { answers = c.answers; turned = c.turned; known = c.known; is_verdict = c.verdict }

-- examples, computed in the definitions

abbrev one_row : Quantifier → Formula
one_row q = record { prefix = record { quantifier = q; variable = 1 } ∷ []; matrix = lit true 1 }

abbrev two_rows : Formula
two_rows =
    record {
      prefix = record { quantifier = exists; variable = 1 } ∷ record { quantifier = for_all; variable = 2 } ∷ [];
      matrix = node or (lit true 1 ▸ lit true 2 ▸ ∅);
    }

pub one_half :
    (join_answers 1 (one_row exists) (none ∷ some true ∷ []) ≡ some true) × (join_answers 1 (one_row for_all) (some false ∷ none ∷ []) ≡ some false) ×
    (join_answers 1 (one_row exists) (none ∷ some false ∷ []) ≡ none) × (join_answers 1 (one_row for_all) (some true ∷ none ∷ []) ≡ none)
unfolding join_answers joined weigh if_stops
one_half = (refl, refl, refl, refl)

-- value 1 of the first row has the last two answers
pub second_half : join_answers 2 two_rows (some false ∷ none ∷ some true ∷ some true ∷ []) ≡ some true
unfolding join_answers joined weigh if_stops
second_half = refl
