-- The slices of all warehouses once the executors have ended.
use Rattle.std.specs.Prelude.{◌≡◌, ℕ, ◌+◌, List, [], ◌∷◌, Some, length, map}
use Rattle.std.specs.List.{slice_get}
use Rattle.schema.specs.Database.{Database}
use Rattle.requests.specs.declared.group.Group.{Group}
use Rattle.partitions.specs.Parts.{IsPart, shared_of}
use Rattle.groups.specs.Content.{content}
use Rattle.groups.specs.Groups.{warehouse_of}
use Rattle.groups.specs.declared.group_wants.Mode.TheVariants.{Exclusive}
use Rattle.groups.specs.declared.wants.Kind.{Kind}
use Rattle.groups.specs.declared.wants.Kind.TheVariants.{Warehouse, District, Customers, Orders, History, Stock}
use Rattle.groups.specs.declared.wants.Extent.TheVariants.{Every}
use Rattle.groups.specs.declared.wants.Want.{Want}
use Rattle.machine.specs.Machine.{tables_after}
use Rattle.commit_log.specs.declared.entry.Entry.{Entry}
use Rattle.commit_log.specs.Log.{requests_of}
use Rattle.tickets.specs.Places.{IsGroupOf}
use Rattle.slices.specs.SliceView.{SliceView, part_in}

-- the tables that the transactions of this log leave
abbrev pub tables_left : Database → List Entry → Database
tables_left opening log = tables_after opening (requests_of log)

-- this is the slice of this warehouse, with the scale and the items of the opening
pub record IsBackAt (opening : Database) (home : ℕ) (s : SliceView) : Type 0 where
  pub home_is : s.home ≡ home
  pub part : IsPart (part_in s)
  pub shared_is : shared_of s.tables ≡ shared_of opening

-- and each of its groups has the content that it has in these tables
pub record IsSettledAt (opening last : Database) (home : ℕ) (s : SliceView) : Type 0 where
  pub back : IsBackAt opening home s
  pub settled : (group : Group) → IsGroupOf opening.scale.warehouses group → warehouse_of group ≡ home → content s.tables group ≡ content last group

-- these are the slices of all warehouses, in order, each settled
pub record AreSettled (opening last : Database) (slices : List SliceView) : Type 0 where
  pub many : length slices ≡ opening.scale.warehouses
  pub each : (place : ℕ) (s : SliceView) → slice_get slices place ≡ Some s → IsSettledAt opening last (place + 1) s

-- all groups of a kind in a warehouse, exclusively
abbrev pub want_of_kind : ℕ → Kind → Want
want_of_kind home kind = record { extent = Every (record { kind = kind; w_id = home }); mode = Exclusive }

-- all groups of a warehouse, exclusively
abbrev pub wants_of_all : ℕ → List Want
wants_of_all home = map (want_of_kind home) (Warehouse ∷ District ∷ Customers ∷ Orders ∷ History ∷ Stock ∷ [])
