-- What becomes of groups under two changes, one after the other, and under one change of two databases.
use Rattle.std.proofs.Common.{◌≡◌, sym, ap, subst, ◌∙◌}
use Rattle.schema.specs.Database.{Database}
use Rattle.requests.specs.declared.group.Group.{Group}
use Rattle.groups.specs.Content.{Content, content}
use Rattle.groups.specs.Laws.{ChangesOneGroup}
use Rattle.groups.proofs.SameGroups.{groups_total, groups_exact}
use Rattle.machine.proofs.RowsChanged.{same_or_other}

module _ (own : Group) where
  -- a group is changed, and then changed again
  pub then_changed : (first second : Content → Content) (old mid new : Database) → ChangesOneGroup own first old mid → ChangesOneGroup own second mid new
      → ChangesOneGroup own (λ has. second (first has)) old new
  then_changed first second old mid new before after = record {
    here = after.here ∙ ap second before.here;
    elsewhere = λ group apart. after.elsewhere group apart ∙ before.elsewhere group apart;
  }

  -- where two tables have the same in a group, they have the same after the same change
  pub changed_alike : (change : Content → Content) (s t new_s new_t : Database) → ChangesOneGroup own change s new_s → ChangesOneGroup own change t new_t
      → (group : Group) → content s group ≡ content t group → content new_s group ≡ content new_t group
  changed_alike change s t new_s new_t s_put t_put group =
      same_or_other groups_total groups_exact group own {G = content s group ≡ content t group → content new_s group ≡ content new_t group}
      (λ same tied. subst (λ x. content s x ≡ content t x → content new_s x ≡ content new_t x) (sym same) (λ alike. s_put.here ∙ ap change alike ∙ sym t_put.here))
      (λ apart other alike. s_put.elsewhere group apart ∙ alike ∙ sym (t_put.elsewhere group apart))
