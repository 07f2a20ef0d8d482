-- Events with their answers, one after another.
use Rattle.std.proofs.Common.{◌≡◌, List, [], ◌∷◌, ◌++◌, length, refl, sym, ap, subst, arith, append_assoc, append-nil}
use Rattle.history.specs.declared.event.Event.{Event}
use Rattle.history.specs.declared.event.EventAnswer.{EventAnswer}
use Rattle.history.specs.History.{Step, step}
use Rattle.world.specs.declared.world.Parts.{Parts}
use Rattle.world.specs.declared.world.Core.{Core}
use Rattle.world.specs.Together.{together}
use Rattle.world.specs.Worlds.{Advances, ComeAbout, EventHappens, Fits, HappenInTurn, steps_of}

-- one event and one answer more
pub steps_of-push : (events : List Event) (answers : List EventAnswer) (event : Event) (answer : EventAnswer) → length events ≡ length answers
    → steps_of (events ++ event ∷ []) (answers ++ answer ∷ []) ≡ steps_of events answers ++ step event answer ∷ []
steps_of-push [] [] event answer same = refl
steps_of-push [] (a ∷ answers) event answer same = absurd (omega (arith, same))
steps_of-push (e ∷ events) [] event answer same = absurd (omega (arith, same))
steps_of-push (e ∷ events) (a ∷ answers) event answer same = ap (λ (steps : List Step). step e a ∷ steps) (steps_of-push events answers event answer (omega (arith, same)))

module _ {J : Type 0} where
  -- some events, and then more
  pub one_after_another : (first mid last : Parts J) (some more : List Step) → Advances first some mid → Advances mid more last → Advances first (some ++ more) last
  one_after_another first mid last some more a b opening history f =
      subst (λ (steps : List Step). Fits opening steps last) (append_assoc history some more) (b opening (history ++ some) (a opening history f))

  -- no events
  pub no_events : (w : Parts J) → Advances w [] w
  no_events w opening history f = subst (λ (steps : List Step). Fits opening steps w) (sym (append-nil history)) f

module _ {J : Type 0} where
  -- more happens
  pub happen_after : (some more : List Step) (old mid new : Core J) → HappenInTurn some old mid → HappenInTurn more mid new → HappenInTurn (some ++ more) old new
  happen_after [] more old mid new before after = subst (λ w. HappenInTurn more w new) before after
  happen_after (s ∷ some) more old mid new before after = (before.0, (before.1.0, happen_after some more before.0 mid new before.1.1 after))

  -- one event happens
  pub happens_once : (s : Step) (old new : Core J) → EventHappens s old new → HappenInTurn (s ∷ []) old new
  happens_once s old new is = (new, (is, refl))

  -- one event came about
  pub event_comes : (s : Step) (old new : Core J) → EventHappens s old new → ComeAbout (s ∷ []) old new
  event_comes s old new is = (happens_once s old new is, is.advances)

  -- more comes about
  pub comes_after : (some more : List Step) (old mid new : Core J) → ComeAbout some old mid → ComeAbout more mid new → ComeAbout (some ++ more) old new
  comes_after some more old mid new before after =
      (happen_after some more old mid new before.0 after.0, one_after_another (together old) (together mid) (together new) some more before.1 after.1)
