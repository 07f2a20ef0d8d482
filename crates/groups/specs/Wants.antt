-- What an action asks to lock: a group, or all groups of a kind in a warehouse. Which groups those are, and when two
-- wants overlap.
use Rattle.std.specs.Prelude.{◌≡◌, ℕ}
use Rattle.requests.specs.declared.group.Group.{Group}
use Rattle.groups.specs.Groups.{kind_of, warehouse_of}
use Rattle.groups.specs.declared.wants.Kind.{Kind}
use Rattle.groups.specs.declared.wants.Kind.TheVariants.{Warehouse, District, Customers, Orders, History, Stock}
use Rattle.groups.specs.declared.wants.Prefix.{Prefix}
use Rattle.groups.specs.declared.wants.Extent.{Extent}
use Rattle.groups.specs.declared.wants.Extent.TheVariants.{One, Every}
use Rattle.groups.specs.declared.wants.Want.{Want}

-- the number of a kind in the order of groups
abbrev pub kind_number : Kind → ℕ
kind_number Warehouse = 0
kind_number District = 1
kind_number Customers = 2
kind_number Orders = 3
kind_number History = 4
kind_number Stock = 5

-- the group has the prefix's kind, and is of its warehouse
abbrev pub IsUnder : Prefix → Group → Type 0
IsUnder prefix group = (kind_of group ≡ kind_number prefix.kind) × (warehouse_of group ≡ prefix.w_id)

-- the group is in the extent
abbrev pub IsIn : Extent → Group → Type 0
IsIn (One own) group = own ≡ group
IsIn (Every prefix) group = IsUnder prefix group

-- the group is in the want's extent
abbrev pub Covers : Want → Group → Type 0
Covers want group = IsIn want.extent group

-- some group is in both wants
abbrev pub Overlap : Want → Want → Type 0
Overlap a b = (group : Group) × Covers a group × Covers b group
