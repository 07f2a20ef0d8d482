-- What is so of each script that is drawn.
use Rattle.std.proofs.Common.{◌≡◌, ℕ, suc, ◌+◌, ◌*◌, ◌%◌, ◌/◌, ◌^◌, ◌<◌, true, Option, Some, None, List, ◌∷◌, [], length, map, sym, ap, ◌∙◌, subst, refl, arith}
use Rattle.std.specs.Prelude.{IsTrue, All}
use Rattle.std.specs.Option.{ForSome}
use Rattle.rand_pcg.specs.Lcg.{Lcg}
use Rattle.rows.specs.Ranged.{is_between}
use Rattle.schema.specs.declared.scale.Scale.{Scale}
use Rattle.schema.specs.Scale.{has_warehouse}
use Rattle.number_draws.specs.Words.{seeded}
use Rattle.workload.specs.declared.kind.Kind.{Kind}
use Rattle.workload.specs.declared.terminal.Terminal.{Terminal}
use Rattle.workload.specs.declared.sessions.Workload.{Workload}
use Rattle.workload.specs.Kinds.{kind_of}
use Rattle.workload.specs.Decks.{AreDealt, cards_of, kinds_drawn}
use Rattle.workload.specs.Requests.{moment_at, request_drawn, requests_drawn}
use Rattle.workload.specs.Sessions.{home_of, terminal_of, script_drawn}
use Rattle.workload.specs.Within.{AreAccepted, IsWithin}
use Rattle.workload.proofs.Numbers.{between}
use Rattle.workload.proofs.OtherWarehouses.{IsDistrict}
use Rattle.workload.proofs.Drawn.{requests-accepted, requests-within, requests-kinds}
use Rattle.workload.proofs.Dealt.{kinds-count, kinds-dealt}

-- the home of a session is in the scale
home-warehouse : (scale : Scale) (home : Option ℕ) (session : ℕ) → ForSome home (λ w_id. IsTrue (has_warehouse scale w_id))
    → has_warehouse scale (home_of home scale.warehouses session).w_id ≡ true
home-warehouse scale (Some w_id) session h = h w_id refl
home-warehouse scale None session h =
    let limits = scale.limits in
    let some : 0 < scale.warehouses = omega arith in
    between 1 scale.warehouses (session % scale.warehouses + 1) (omega arith) (omega arith)

home-district : (home : Option ℕ) (warehouses session : ℕ) → is_between 1 10 (home_of home warehouses session).d_id ≡ true
home-district (Some w_id) warehouses session = between 1 10 (session % 10 + 1) (omega arith) (omega arith)
home-district None warehouses session = let turn = session / warehouses in between 1 10 (turn % 10 + 1) (omega arith) (omega arith)

pub terminal-there : (workload : Workload) (session : ℕ) → IsDistrict (terminal_of workload session) (terminal_of workload session).home
terminal-there workload session = record {
  warehouse = home-warehouse workload.scale workload.home session workload.of_scale;
  district = home-district workload.home workload.scale.warehouses session;
}

pub requests-count : (terminal : Terminal) (now number : ℕ) (kinds : List Kind) (generator : Lcg) → length (requests_drawn terminal now number kinds generator) ≡ length kinds
unfolding requests_drawn
requests-count terminal now number [] generator = refl
requests-count terminal now number (kind ∷ kinds) generator =
    ap suc (requests-count terminal now (number + 1) kinds (request_drawn terminal (moment_at now number) kind generator).1)

pub script-count : (workload : Workload) (session : ℕ) → length (script_drawn workload session) ≡ workload.requests
unfolding script_drawn
script-count workload session =
    requests-count (terminal_of workload session) workload.start 0 _ _ ∙ kinds-count workload.mix workload.requests (seeded (workload.seed + 2 ^ 32 * (2 * session + 1)))

pub script-accepted : (workload : Workload) (session : ℕ) → All (AreAccepted workload.scale) (script_drawn workload session)
unfolding script_drawn
script-accepted workload session = requests-accepted (terminal_of workload session) workload.start 0 _ _ (terminal-there workload session)

pub script-within : (workload : Workload) (session : ℕ) → All (IsWithin (terminal_of workload session)) (script_drawn workload session)
unfolding script_drawn
script-within workload session = requests-within (terminal_of workload session) workload.start 0 _ _

pub script-mix : (workload : Workload) (session : ℕ) → AreDealt (cards_of workload.mix) (map kind_of (script_drawn workload session))
unfolding script_drawn
script-mix workload session =
    let generator = seeded (workload.seed + 2 ^ 32 * (2 * session + 1)) in
    let kinds = kinds_drawn workload.mix workload.requests generator in
    subst (AreDealt (cards_of workload.mix)) (sym (requests-kinds (terminal_of workload session) workload.start 0 kinds _)) (kinds-dealt workload.mix workload.requests generator)
