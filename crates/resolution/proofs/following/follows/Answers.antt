-- `resolution::following::follows` meets its contract: by what the walks over both antecedents find.
use Rattle.std.proofs.Common.{refl}
use Rattle.sets.proofs.Members.{holds-none}
use Rattle.resolution.proofs.Resolvents.{follows-walked}
use Rattle.resolution.proofs.following.follows.Goals as goal

pub returns-then-covers : goal.returns-then-covers
returns-then-covers c =
    λ o p ranks.
    follows-walked _ _ _ _ c.requires.0 o p _ _ _ _ _ _ _ ranks (holds-none 64) (holds-none 64) c.mark.ensures.adds c.mark_all.ensures.gathers
    c.last_of-last.ensures c.covers-then-covers.result (rw (← c.covers.ensures, c.if-covers.true) c.covers-then-covers.ensures)

pub returns-else-covers : goal.returns-else-covers
returns-else-covers c =
    λ o p ranks.
    follows-walked _ _ _ _ c.requires.0 o p _ _ _ _ _ _ _ ranks (holds-none 64) (holds-none 64) c.mark.ensures.adds c.mark_all.ensures.gathers
    c.last_of-last.ensures c.covers.result (rw (← c.covers.ensures, c.if-covers.false) refl)
