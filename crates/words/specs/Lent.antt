-- What lent memory holds as a call begins, and as it ends: how the contracts of the crates above say it.
use Rattle.std.specs.Borrow.{MutBor}
use denote.Triple.Both.{Both}

abbrev pub given : {A : Type 0} {X : Type 0} → Both (MutBor A) X → A
given x = x.entry.now

abbrev pub after : {A : Type 0} {E : Type 0} → Both E (MutBor A) → A
after x = x.exit.now
