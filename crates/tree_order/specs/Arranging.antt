-- Trees that are sorted themselves, put in order.
-- Assumes nothing.
use Rattle.std.specs.Prelude.{◌≡◌, Bool, true}
use Rattle.formula.specs.Tree.{Tree, Forest, ∅, ◌▸◌}
use Rattle.formula.specs.Order.{leads, insert, sort}

-- the trees of the first list inserted into the second
unfoldable pub into : Forest → Forest → Forest
into ∅ us = us
into (t ▸ ts) us = insert t (into ts us)

abbrev pub arrange : Forest → Forest
arrange ts = into ts ∅

-- each tree sorted, where it stands
unfoldable pub sort_each : Forest → Forest
sort_each ∅ = ∅
sort_each (t ▸ ts) = sort t ▸ sort_each ts

-- a tree may stand before all of a list; a list is in order
abbrev pub LeadsAll : Tree → Forest → Type 0
LeadsAll t ∅ = Unit {0}
LeadsAll t (u ▸ us) = (leads t u ≡ true) × LeadsAll t us

abbrev pub Ascending : Forest → Type 0
Ascending ∅ = Unit {0}
Ascending (t ▸ ts) = LeadsAll t ts × Ascending ts

-- whether a tree may stand before the first of a list
abbrev pub first_leads : Tree → Forest → Bool
first_leads t ∅ = true
first_leads t (u ▸ us) = leads t u
