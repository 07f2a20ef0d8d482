use Rattle.std.proofs.Common.{List, Option, length, sym, ◌∙◌, ap}
use Rattle.world.specs.Slots as spec
use Rattle.world.proofs.FreeSlots.{found_free, found_room, none_found}
use Rattle.world.proofs.slots.Slots.first_free.Goals as goal

pub returns-clause-free : goal.returns-clause-free
returns-clause-free g c =
    let found = c.first_free_of.ensures ∙ ap (λ (l : List (Option g.row.T.Denot)). spec.first_free l) (c.deref.ensures.value ∙ c.self.view_is) in
    found_free c.args.self.now c.first_free_of.result found

pub returns-clause-room : goal.returns-clause-room
returns-clause-room g c =
    let found = c.first_free_of.ensures ∙ ap (λ (l : List (Option g.row.T.Denot)). spec.first_free l) (c.deref.ensures.value ∙ c.self.view_is) in
    let many = ap (λ (l : List (Option g.row.T.Denot)). length l) (sym c.self.view_is) ∙ c.self.invariant in
    found_room c.args.self.now c.first_free_of.result many found

pub returns-clause-none : goal.returns-clause-none
returns-clause-none g c =
    let found = c.first_free_of.ensures ∙ ap (λ (l : List (Option g.row.T.Denot)). spec.first_free l) (c.deref.ensures.value ∙ c.self.view_is) in
    let many = ap (λ (l : List (Option g.row.T.Denot)). length l) (sym c.self.view_is) ∙ c.self.invariant in
    none_found c.args.self.now c.first_free_of.result many found
