-- What one slice keeps, all slices keep; and the slices of tables that were cut are those tables.
use Rattle.std.proofs.Common.{◌≡◌, ◌≢◌, ℕ, zero, suc, ◌+◌, ◌<◌, List, [], ◌∷◌, ◌++◌, Bool, true, false, length, get_or, set, map, refl, sym, ap, subst, ◌∙◌, arith, ⊎_elim, length-set}
use Rattle.std.specs.Prelude.{All, IsTrue, ◌==◌, if◌then◌else◌}
use Rattle.std.specs.List.Sorted.{IsPermutation}
use Rattle.std.proofs.lemmas.Bool.{eq-eqb, ne_eqb}
use Rattle.std.proofs.lemmas.Bool.Decides.{eqb_tells}
use Rattle.std.proofs.lemmas.List.{get_or-set_same, get_or-set_other, get_or-map, map-set, length-map}
use Rattle.std.proofs.lemmas.List.Elements.{All-weaker}
use Rattle.requests.specs.declared.group.Group.{Group}
use Rattle.groups.specs.Content.{Content, content}
use Rattle.groups.specs.Groups.{warehouse_of}
use Rattle.partitions.specs.Parts.{SharedTables, Part, IsPartAt, ArePartsOf, shared_of, parts_of, whole_of}
use Rattle.partitions.proofs.PartLaws.{parts_are, tables_again}
use Rattle.tickets.specs.Claims.{ClaimView}
use Rattle.tickets.specs.Committed.{GroupsOfSlice, AreCommitted, KeepsCommitted}
use Rattle.tickets.specs.Laws.{IsElsewhere}
use Rattle.tickets.proofs.Apart.{by_bool}
use Rattle.tickets.proofs.Committed.{elsewhere_keeps}
use Rattle.local_locks.specs.Asking.{held_by}
use Rattle.local_locks.specs.LockTableView.{HeldClaim}
use Rattle.slices.specs.Joining.{OneSliceKeepsAll, CutSlicesAreAtRest}
use Rattle.slices.specs.SliceView.{SliceView, AreSlicesOf, IsClaimAt, KeepsAllHeld, KeepsHeld, part_in, at_home, at_rest, free_at, held_at, holdings_in, standing, joined, all_standing, everywhere}
use Rattle.slices.proofs.Alike.{content_alike}
use Rattle.slices.proofs.Held.{none_of, own_first}
use Rattle.slices.proofs.Seen.{AreAlike, seen, home_records, home_recorded}
use Rattle.slices.proofs.Wholes.{whole_has_part, whole_keeps_others}

-- ---- what is committed in one warehouse, and in all others

-- the groups of all other warehouses
abbrev away_from : ℕ → Group → Bool
away_from home group = if at_home home group then false else true

-- what is committed everywhere, is where one looks
narrowed : (here : Group → Bool) (tables : Group → Content) (slice : GroupsOfSlice) (claims : List ClaimView) → AreCommitted everywhere tables slice claims → AreCommitted here tables slice claims
narrowed here tables slice claims h = record {
  tickets = λ group _. h.tickets group refl;
  recorded = λ k d small _. h.recorded k d small refl;
  left = λ k d small _. h.left k d small refl;
  others = λ group _ none. h.others group refl none;
}

-- and what is committed in a warehouse and in all others, is everywhere
combined : (home : ℕ) (tables : Group → Content) (slice : GroupsOfSlice) (claims : List ClaimView)
    → AreCommitted (at_home home) tables slice claims → AreCommitted (away_from home) tables slice claims → AreCommitted everywhere tables slice claims
combined home tables slice claims near far = record {
  tickets = λ group _. at group (λ h. near.tickets group h) (λ h. far.tickets group h);
  recorded = λ k d small _. at (get_or claims k d).group (λ h. near.recorded k d small h) (λ h. far.recorded k d small h);
  left = λ k d small _. at (get_or claims k d).group (λ h. near.left k d small h) (λ h. far.left k d small h);
  others = λ group _ none. at group (λ h. near.others group h none) (λ h. far.others group h none);
}
  where
    at : {P : Type 0} (group : Group) → (IsTrue (at_home home group) → P) → (IsTrue (away_from home group) → P) → P
    at group one other = by_bool (at_home home group) refl one (λ e. other (ap (λ (b : Bool). if b then false else true) e))

-- what is kept in one warehouse by claims on its groups is kept everywhere, where the others stay
one_home_keeps : (home : ℕ) (before after : List ClaimView) (old all_old new all_new : GroupsOfSlice) → All (IsClaimAt home) before → All (IsClaimAt home) after
    → AreAlike (at_home home) all_old old → AreAlike (at_home home) new all_new → AreAlike (away_from home) all_old all_new
    → KeepsCommitted (at_home home) before old after new → KeepsCommitted everywhere before all_old after all_new
one_home_keeps home before after old all_old new all_new here_before here_after was is stays keeps = λ tables others h.
    let near = keeps tables others (seen (at_home home) tables all_old old (before ++ others) was (narrowed (at_home home) tables all_old (before ++ others) h)) in
    let far = elsewhere_keeps (away_from home) before after all_old (not_away before here_before) (not_away after here_after) tables others (narrowed (away_from home) tables all_old (before ++ others) h) in
    combined home tables all_new (after ++ others) (seen (at_home home) tables new all_new (after ++ others) is near) (seen (away_from home) tables all_old all_new (after ++ others) stays far)
  where
    not_away : (claims : List ClaimView) → All (IsClaimAt home) claims → All (IsElsewhere (away_from home)) claims
    not_away claims all = All-weaker (IsClaimAt home) (IsElsewhere (away_from home)) one claims all
      where
        one : (claim : ClaimView) → IsClaimAt home claim → IsElsewhere (away_from home) claim
        one claim at = ⊎_elim
            (λ (same : ((warehouse_of claim.group == home) ≡ true) × (warehouse_of claim.group ≡ home)). ap (λ (b : Bool). if b then false else true) same.0)
            (λ (other : ((warehouse_of claim.group == home) ≡ false) × (warehouse_of claim.group ≢ home)). absurd (other.1 at))
            (eqb_tells (warehouse_of claim.group) home)

-- ---- the claims that are out

abbrev pub AreHomedFrom : ℕ → List SliceView → Type 0
AreHomedFrom first slices = (place : ℕ) (d : SliceView) → place < length slices → (get_or slices place d).home ≡ first + place

-- a warehouse's are those of its slice
pub held_here : (first : ℕ) (slices : List SliceView) (w_id place : ℕ) (d : SliceView) → AreHomedFrom first slices → place < length slices → w_id ≡ first + place
    → holdings_in slices w_id ≡ (get_or slices place d).holdings
held_here first [] w_id place d homed here at = absurd (omega (arith, here))
held_here first (s ∷ slices) w_id zero d homed here at =
    ap (λ (b : Bool). if b then s.holdings else holdings_in slices w_id) (eq-eqb w_id s.home (omega (arith, at, homed zero d here)))
held_here first (s ∷ slices) w_id (suc place) d homed here at =
    let first_home : s.home ≡ first = omega (arith, homed zero d (omega arith)) in
    ap (λ (b : Bool). if b then s.holdings else holdings_in slices w_id) (ne_eqb w_id s.home (λ e. omega (arith, e, at, first_home)))
    ∙ held_here (first + 1) slices w_id place d (λ k other small. omega (arith, homed (suc k) other (omega (arith, small)))) (omega (arith, here)) (omega (arith, at))

-- and another slice's are irrelevant
held_elsewhere : (slices : List SliceView) (w_id place : ℕ) (d new : SliceView) → place < length slices → new.home ≡ (get_or slices place d).home → w_id ≢ new.home
    → holdings_in (set slices place new) w_id ≡ holdings_in slices w_id
held_elsewhere [] w_id place d new here at apart = refl
held_elsewhere (s ∷ slices) w_id zero d new here at apart =
    ap (λ (b : Bool). if b then new.holdings else holdings_in slices w_id) (ne_eqb w_id new.home apart)
    ∙ sym (ap (λ (b : Bool). if b then s.holdings else holdings_in slices w_id) (ne_eqb w_id s.home (λ e. apart (e ∙ sym at))))
held_elsewhere (s ∷ slices) w_id (suc place) d new here at apart =
    ap (λ (hs : List HeldClaim). if w_id == s.home then s.holdings else hs) (held_elsewhere slices w_id place d new (omega (arith, here)) at apart)

-- ---- one slice changes

pub parts_of_slices : (shared : SharedTables) (slices : List SliceView) → AreSlicesOf shared slices → ArePartsOf shared (map part_in slices)
parts_of_slices shared slices are = record {
  many = length-map slices part_in ∙ are.many;
  each = λ k d small.
      let inside : k < length slices = omega (arith, small, length-map slices part_in) in
      let s : SliceView = at_rest d in
      subst (IsPartAt shared k) (sym (get_or-map part_in slices k s d inside)) (are.each k s inside);
}

pub homed_from_one : (shared : SharedTables) (slices : List SliceView) → AreSlicesOf shared slices → AreHomedFrom 1 slices
homed_from_one shared slices are k d small = omega (arith, (are.each k d small).home)

-- what all slices have in a group of a warehouse is what its slice has
as_in_one : (shared : SharedTables) (slices : List SliceView) (place : ℕ) (d : SliceView) → AreSlicesOf shared slices → place < length slices
    → AreAlike (at_home (place + 1)) (standing (get_or slices place d)) (all_standing (joined shared slices))
as_in_one shared slices place d are here group near =
    let s : SliceView = get_or slices place d in
    let at : warehouse_of group ≡ place + 1 = home_recorded (place + 1) group near in
    let inside : place < length (map part_in slices) = omega (arith, here, length-map slices part_in) in
    let rows = content_alike (place + 1) (whole_of shared (map part_in slices)) (get_or (map part_in slices) place (part_in d)).tables
    (whole_has_part shared (map part_in slices) place (part_in d) (parts_of_slices shared slices are) inside) group at in (
      rows ∙ ap (λ (p : Part). content p.tables group) (get_or-map part_in slices place d (part_in d) here),
      ap (λ hs. free_at hs group) (held_here 1 slices (warehouse_of group) place d (homed_from_one shared slices are) here (omega (arith, at))),
    )

-- the slice of a warehouse makes way for another of it
slices_set : (shared : SharedTables) (slices : List SliceView) (place : ℕ) (new : SliceView) → AreSlicesOf shared slices → place < length slices → IsPartAt shared place (part_in new)
    → AreSlicesOf shared (set slices place new)
slices_set shared slices place new are here is = record {
  many = length-set slices place new ∙ are.many;
  each = each;
}
  where
    each : (k : ℕ) (d : SliceView) → k < length (set slices place new) → IsPartAt shared k (part_in (get_or (set slices place new) k d))
    each k d small =
        let inside : k < length slices = omega (arith, small, length-set slices place new) in
        ⊎_elim
        (λ (same : ((k == place) ≡ true) × (k ≡ place)).
        let P : ℕ → Type 0 = λ j. IsPartAt shared j (part_in (get_or (set slices place new) j d)) in
        subst P (sym same.1) (subst (λ (s : SliceView). IsPartAt shared place (part_in s)) (sym (get_or-set_same slices place new d here)) is))
        (λ (other : ((k == place) ≡ false) × (k ≢ place)).
        subst (λ (s : SliceView). IsPartAt shared k (part_in s)) (sym (get_or-set_other slices place k new d other.1)) (are.each k d inside))
        (eqb_tells k place)

-- and in all other groups nothing changes
others_stay : (shared : SharedTables) (slices : List SliceView) (place : ℕ) (d new : SliceView) → AreSlicesOf shared slices → AreSlicesOf shared (set slices place new) → place < length slices → new.home ≡ place + 1
    → AreAlike (away_from (place + 1)) (all_standing (joined shared slices)) (all_standing (joined shared (set slices place new)))
others_stay shared slices place d new are are_now here home group far =
    let apart : warehouse_of group ≢ place + 1 = λ e. (let no : true ≡ false = sym far ∙ ap (λ (b : Bool). if b then false else true) (home_records (place + 1) group e) in cc) in
    let parts_now : ArePartsOf shared (set (map part_in slices) place (part_in new)) = subst (ArePartsOf shared) (map-set part_in slices place new) (parts_of_slices shared (set slices place new) are_now) in (
      ap (λ parts. content (whole_of shared parts) group) (map-set part_in slices place new)
          ∙ content_alike (warehouse_of group) (whole_of shared (set (map part_in slices) place (part_in new))) (whole_of shared (map part_in slices))
          (whole_keeps_others shared (map part_in slices) place (part_in new) (warehouse_of group) (parts_of_slices shared slices are) parts_now apart) group refl,
      ap (λ hs. free_at hs group) (held_elsewhere slices (warehouse_of group) place d new here (home ∙ sym (are.each place d here).home) (λ e. apart (e ∙ home))),
    )

-- with claims of one warehouse where others of it were, all other claims that were out still are
all_held : (shared : SharedTables) (slices : List SliceView) (place : ℕ) (d new : SliceView) (before after : List ClaimView)
    → AreSlicesOf shared slices → AreSlicesOf shared (set slices place new) → place < length slices → new.home ≡ place + 1
    → All (IsClaimAt (place + 1)) before → All (IsClaimAt (place + 1)) after → KeepsHeld before (get_or slices place d).holdings after new.holdings
    → KeepsAllHeld before (holdings_in slices) after (holdings_in (set slices place new))
all_held shared slices place d new before after are are_now here home at_before at_after keeps others held w_id =
    ⊎_elim
    (λ (same : ((w_id == place + 1) ≡ true) × (w_id ≡ place + 1)).
    let inside : place < length (set slices place new) = omega (arith, here, length-set slices place new) in
    let was : holdings_in slices w_id ≡ (get_or slices place d).holdings = held_here 1 slices w_id place d (homed_from_one shared slices are) here (omega (arith, same.1)) in
    let now : holdings_in (set slices place new) w_id ≡ new.holdings =
    held_here 1 (set slices place new) w_id place d (homed_from_one shared (set slices place new) are_now) inside (omega (arith, same.1))
    ∙ ap (λ (s : SliceView). s.holdings) (get_or-set_same slices place new d here) in
    let first : IsPermutation (get_or slices place d).holdings (map held_by before ++ held_at w_id others) =
    subst (λ (hs : List HeldClaim). IsPermutation hs (map held_by before ++ held_at w_id others)) was
    (subst (IsPermutation (holdings_in slices w_id)) (own_first (place + 1) w_id before others same.1 at_before) (held w_id)) in
    subst (IsPermutation (holdings_in (set slices place new) w_id)) (sym (own_first (place + 1) w_id after others same.1 at_after))
    (subst (λ (hs : List HeldClaim). IsPermutation hs (map held_by after ++ held_at w_id others)) (sym now) (keeps (held_at w_id others) first)))
    (λ (other : ((w_id == place + 1) ≡ false) × (w_id ≢ place + 1)).
    let stays : holdings_in (set slices place new) w_id ≡ holdings_in slices w_id =
    held_elsewhere slices w_id place d new here (home ∙ sym (are.each place d here).home) (λ e. other.1 (e ∙ home)) in
    subst (λ (hs : List HeldClaim). IsPermutation hs (held_at w_id (after ++ others))) (sym stays)
    (subst (IsPermutation (holdings_in slices w_id)) (none_of (place + 1) w_id before others other.1 at_before ∙ sym (none_of (place + 1) w_id after others other.1 at_after)) (held w_id)))
    (eqb_tells w_id (place + 1))

pub one_slice_keeps_all : OneSliceKeepsAll
one_slice_keeps_all shared slices place d new before after are here at_before at_after keeps =
    let old : SliceView = get_or slices place d in
    let was = are.each place d here in
    let home : new.home ≡ place + 1 = keeps.home ∙ was.home in
    let is : IsPartAt shared place (part_in new) = record { home = home; scale = keeps.scale ∙ was.scale; items = keeps.items ∙ was.items } in
    let are_now : AreSlicesOf shared (set slices place new) = slices_set shared slices place new are here is in
    let inside : place < length (set slices place new) = omega (arith, here, length-set slices place new) in
    let same : get_or (set slices place new) place d ≡ new = get_or-set_same slices place new d here in
    let after_alike : AreAlike (at_home (place + 1)) (standing new) (all_standing (joined shared (set slices place new))) =
    subst (λ (s : SliceView). AreAlike (at_home (place + 1)) (standing s) (all_standing (joined shared (set slices place new)))) same
    (as_in_one shared (set slices place new) place d are_now inside) in
    let before_alike : AreAlike (at_home (place + 1)) (all_standing (joined shared slices)) (standing old) =
    (λ group near. let one = as_in_one shared slices place d are here group near in (sym one.0, sym one.1)) in
    let kept : KeepsCommitted (at_home (place + 1)) before (standing old) after (standing new) =
    subst (λ n. KeepsCommitted (at_home n) before (standing old) after (standing new)) was.home keeps.committed in (
      are_now,
      record {
        committed = one_home_keeps (place + 1) before after (standing old) (all_standing (joined shared slices)) (standing new) (all_standing (joined shared (set slices place new))) at_before at_after
            before_alike after_alike (others_stay shared slices place d new are are_now here home) kept;
        holdings = all_held shared slices place d new before after are are_now here home at_before at_after keeps.holdings;
        scale = refl;
        items = refl;
      },
    )

-- ---- the slices of cut tables

none_of_all : (parts : List Part) (w_id : ℕ) → holdings_in (map at_rest parts) w_id ≡ []
none_of_all [] w_id = refl
none_of_all (p ∷ parts) w_id =
    ap (λ (hs : List HeldClaim). if w_id == p.home then [] else hs) (none_of_all parts w_id)
    ∙ either (w_id == p.home) []
  where
    either : (b : Bool) (hs : List HeldClaim) → (if b then hs else hs) ≡ hs
    either true hs = refl
    either false hs = refl

pub parts_at_rest : (parts : List Part) → map part_in (map at_rest parts) ≡ parts
parts_at_rest [] = refl
parts_at_rest (p ∷ parts) = ap (λ ps. p ∷ ps) (parts_at_rest parts)

pub cut_slices_are_at_rest : CutSlicesAreAtRest
cut_slices_are_at_rest t within =
    let are = parts_are t in
    let shared : SharedTables = shared_of t in
    let parts : List Part = parts_of t in
    let whole : whole_of shared (map part_in (map at_rest parts)) ≡ t = ap (whole_of shared) (parts_at_rest parts) ∙ tables_again t within in (
      record {
        many = length-map parts at_rest ∙ are.many;
        each = λ place d small.
            let inside : place < length parts = omega (arith, small, length-map parts at_rest) in
            subst (λ (s : SliceView). IsPartAt shared place (part_in s)) (sym (get_or-map at_rest parts place (part_in d) d inside)) (are.each place (part_in d) inside);
      },
      (λ i. record { tables = whole i; holdings = λ w_id. none_of_all parts w_id i }),
    )
