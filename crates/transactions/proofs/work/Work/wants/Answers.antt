use Rattle.std.proofs.Common.{◌≡◌, ◌++◌, ◌∷◌, [], Some, None, List, map, take, slice_get, vec_len, sym, ap, ◌∙◌, arith}
use Rattle.std.proofs.lemmas.List.{map-append}
use Rattle.std.proofs.lemmas.Option.{slice_get_within}
use Rattle.groups.specs.declared.group_wants.GroupWant.{GroupWant}
use Rattle.groups.specs.declared.wants.Want.{Want}
use Rattle.transactions.specs.Works.{want_of, group_wants_of}
use Rattle.transactions.proofs.GroupWanted.{take_all, group_wants_more}
use Rattle.transactions.proofs.work.Work.wants.Goals as goal

pub push_reserved-requires : goal.push_reserved-requires
push_reserved-requires c =
    let group_wants = group_wants_of c.args.self.now in
    let is : slice_get group_wants (vec_len c.loop-group_want.wants) ≡ Some c.in-Some.group_want = ap (slice_get group_wants) (sym c.len.ensures) ∙ sym c.in-Some.ensures in
    let within = slice_get_within group_wants (vec_len c.loop-group_want.wants) c.in-Some.group_want is in
    omega (arith, within, c.loop-group_want.invariant.room)

pub loop-group_want-preserved : goal.loop-group_want-preserved
loop-group_want-preserved c =
    let group_wants = group_wants_of c.args.self.now in
    let before = c.loop-group_want.wants in
    let is : slice_get group_wants (vec_len before) ≡ Some c.in-Some.group_want = ap (slice_get group_wants) (sym c.len.ensures) ∙ sym c.in-Some.ensures in
    let within = slice_get_within group_wants (vec_len before) c.in-Some.group_want is in
    let more = group_wants_more group_wants (vec_len before) (vec_len c.push_reserved.new.self) c.in-Some.group_want is c.push_reserved.ensures.len in
    let first = take (vec_len before) group_wants in
    record {
      count = omega (arith, within, c.push_reserved.ensures.len);
      room = omega (arith, c.push_reserved.ensures.capacity, c.loop-group_want.invariant.room);
      items = c.push_reserved.ensures.items ∙ ap (λ (ws : List Want). ws ++ want_of c.in-Some.group_want ∷ []) c.loop-group_want.invariant.items
          ∙ sym (ap (λ (ws : List GroupWant). map want_of ws) more ∙ map-append want_of first (c.in-Some.group_want ∷ []));
    }

pub returns : goal.returns
returns c =
    let group_wants = group_wants_of c.args.self.now in
    let none : slice_get group_wants (vec_len c.loop-group_want.wants) ≡ None = ap (slice_get group_wants) (sym c.len.ensures) ∙ sym c.in_default.ensures in
    c.loop-group_want.invariant.items ∙ ap (λ (ws : List GroupWant). map want_of ws) (take_all group_wants (vec_len c.loop-group_want.wants) none)
