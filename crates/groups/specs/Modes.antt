-- The mode in which a group is claimed.
use Rattle.requests.specs.declared.group.Group.{Group}
use Rattle.groups.specs.declared.group_wants.Mode.TheVariants.{Shared, Exclusive}
use Rattle.groups.specs.declared.group_wants.GroupWant.{GroupWant}

-- an exclusive want, to change the group
abbrev pub exclusively : Group → GroupWant
exclusively group = record { group = group; mode = Exclusive }

-- a shared want, to read the group
abbrev pub shared : Group → GroupWant
shared group = record { group = group; mode = Shared }
