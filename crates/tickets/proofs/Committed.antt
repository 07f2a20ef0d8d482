-- What each step does to what is committed in a slice: only a commit changes it.
use Rattle.std.proofs.Common.{◌≡◌, ◌≢◌, ◌+◌, ◌*◌, ◌≤◌, List, [], ◌∷◌, ◌++◌, get_or, refl, sym, ◌∙◌, ap, subst, arith, ⊎_elim, append_assoc}
use Rattle.std.specs.Prelude.{◌↔◌, Bool, true, false, if◌then◌else◌, IsTrue, All}
use Rattle.std.specs.List.Sorted.{IsPermutation}
use Rattle.std.proofs.lemmas.List.Sorted.{All-permutation, sum_by-IsPermutation, IsPermutation-append_left, IsPermutation-sym, IsPermutation-to_front}
use Rattle.std.proofs.lemmas.List.Elements.{All-cons, All-head, All-tail, All-nil}
use Rattle.std.proofs.lemmas.List.Sums.{sum_by-cons, get_or-le-sum_by}
use Rattle.requests.specs.declared.group.Group.{Group}
use Rattle.groups.specs.Content.{Content}
use Rattle.groups.specs.Groups.{is_same}
use Rattle.groups.specs.declared.group_wants.Mode.{Mode}
use Rattle.groups.specs.declared.group_wants.Mode.TheVariants.{Shared, Exclusive}
use Rattle.groups.proofs.SameGroups.{is_same-itself, is_same-other}
use Rattle.tickets.specs.Claims.{ClaimView, committed_by, settled, leaving}
use Rattle.tickets.specs.Committed.{tickets_held, tickets_of, tickets_out, exclusive_held, exclusive_of, exclusive_out, RecordsHere, LeavesHere, GroupsOfSlice, AreCommitted, KeepsCommitted, after_claim, after_claims, all_settled}
use Rattle.tickets.specs.Laws.{IsGrant, IsWrite, IsGivenBack, IsElsewhere, IsAtRest}
use Rattle.tickets.proofs.Apart.{apart, by_bool, by_mode}

-- ---- tickets

tickets_of_same : (claim : ClaimView) → tickets_of claim.group claim ≡ tickets_held claim.mode
tickets_of_same claim = ap (λ (b : Bool). if b then tickets_held claim.mode else 0) (is_same-itself claim.group)

tickets_of_other : (group : Group) (claim : ClaimView) → group ≢ claim.group → tickets_of group claim ≡ 0
tickets_of_other group claim differ = ap (λ (b : Bool). if b then tickets_held claim.mode else 0) (is_same-other claim.group group differ)

exclusive_of_same : (claim : ClaimView) → claim.mode ≡ Exclusive → exclusive_of claim.group claim ≡ 1
exclusive_of_same claim shown = ap (λ (b : Bool). if b then exclusive_held claim.mode else 0) (is_same-itself claim.group) ∙ ap exclusive_held shown

exclusive_of_other : (group : Group) (claim : ClaimView) → group ≢ claim.group → exclusive_of group claim ≡ 0
exclusive_of_other group claim differ = ap (λ (b : Bool). if b then exclusive_held claim.mode else 0) (is_same-other claim.group group differ)

exclusive_of_shared : (group : Group) (claim : ClaimView) → claim.mode ≡ Shared → exclusive_of group claim ≡ 0
exclusive_of_shared group claim shared = by_bool (is_same claim.group group) refl
    (λ e. ap (λ (b : Bool). if b then exclusive_held claim.mode else 0) e ∙ ap exclusive_held shared)
    (λ e. ap (λ (b : Bool). if b then exclusive_held claim.mode else 0) e)

some_tickets : (m : Mode) → 1 ≤ tickets_held m
some_tickets Shared = omega arith
some_tickets Exclusive = omega arith

eight_each : (m : Mode) → 8 * exclusive_held m ≤ tickets_held m
eight_each Shared = omega arith
eight_each Exclusive = omega arith

eight_of : (group : Group) (claim : ClaimView) → 8 * exclusive_of group claim ≤ tickets_of group claim
eight_of group claim =
    let P : Bool → Type 0 = λ b. 8 * (if b then exclusive_held claim.mode else 0) ≤ (if b then tickets_held claim.mode else 0) in
    by_bool (is_same claim.group group) refl (λ e. subst P (sym e) (eight_each claim.mode)) (λ e. subst P (sym e) (omega arith))

-- an exclusive claim that is out has eight tickets out
eight_out : (group : Group) (claims : List ClaimView) → 8 * exclusive_out group claims ≤ tickets_out group claims
eight_out group [] = omega arith
eight_out group (claim ∷ claims) = omega (arith, eight_out group claims, eight_of group claim, sum_by-cons (tickets_of group) claim claims, sum_by-cons (exclusive_of group) claim claims)

-- where no ticket of a group is out, no claim is on it
none_on : (group : Group) (claims : List ClaimView) → tickets_out group claims ≡ 0 → All (λ claim. claim.group ≢ group) claims
none_on group claims none = λ k d in' same.
    let claim = get_or claims k d in
    let P : Group → Type 0 = λ g. tickets_of g claim ≡ tickets_held claim.mode in
    let own : tickets_of group claim ≡ tickets_held claim.mode = subst P same (tickets_of_same claim) in
    omega (arith, get_or-le-sum_by (tickets_of group) claims k d in', own, some_tickets claim.mode, none)

-- ---- lists of claims

pub All-front : {X : Type 0} (P : X → Type 0) (xs ys : List X) → All P (xs ++ ys) → All P xs
All-front P [] ys h = All-nil P
All-front P (x ∷ xs) ys h = All-cons P x xs (All-head P x (xs ++ ys) h) (All-front P xs ys (All-tail P x (xs ++ ys) h))

to_middle : (xs ys : List ClaimView) (x : ClaimView) → IsPermutation (x ∷ (xs ++ ys)) (xs ++ (x ∷ ys))
to_middle xs ys x = subst (λ zs. IsPermutation (x ∷ (xs ++ ys)) zs) (append_assoc xs (x ∷ []) ys) (IsPermutation-append_left ys (x ∷ xs) (xs ++ x ∷ []) (IsPermutation-sym (xs ++ x ∷ []) (x ∷ xs) (IsPermutation-to_front xs x)))

module _ (here : Group → Bool) where
  -- the order of the claims is irrelevant
  pub AreCommitted-permutation : (tables : Group → Content) (slice : GroupsOfSlice) (xs ys : List ClaimView) → IsPermutation xs ys → AreCommitted here tables slice xs → AreCommitted here tables slice ys
  AreCommitted-permutation tables slice xs ys moved h = record {
    tickets = λ group near. ap (λ n. n + slice.free group) (sum_by-IsPermutation (tickets_of group) xs ys moved) ∙ h.tickets group near;
    recorded = All-permutation (RecordsHere here tables) xs ys moved h.recorded;
    left = All-permutation (LeavesHere here slice.rows) xs ys moved h.left;
    others = λ group near none. h.others group near (sym (sum_by-IsPermutation (exclusive_of group) xs ys moved) ∙ none);
  }

  -- nothing counts but what is here
  pub AreCommitted-same : (tables next : Group → Content) (old new : GroupsOfSlice) (claims : List ClaimView)
      → ((group : Group) → IsTrue (here group) → next group ≡ tables group)
      → ((group : Group) → IsTrue (here group) → new.rows group ≡ old.rows group)
      → ((group : Group) → IsTrue (here group) → new.free group ≡ old.free group)
      → AreCommitted here tables old claims → AreCommitted here next new claims
  AreCommitted-same tables next old new claims same rows free h = record {
    tickets = λ group near. ap (λ n. tickets_out group claims + n) (free group near) ∙ h.tickets group near;
    recorded = λ k d in' near. same (get_or claims k d).group near ∙ h.recorded k d in' near;
    left = λ k d in' near shown. rows (get_or claims k d).group near ∙ h.left k d in' near shown;
    others = λ group near none. rows group near ∙ h.others group near none ∙ sym (same group near);
  }

  far : (group : Group) (claim : ClaimView) → IsElsewhere here claim → IsTrue (here group) → group ≢ claim.group
  far group claim away near = λ e. (let there : here group ≡ false = ap here e ∙ away in absurd (cc (near, there)))

  not_here : {P : Type 0} (claim : ClaimView) → IsElsewhere here claim → IsTrue (here claim.group) → P
  not_here claim away near = absurd (far claim.group claim away near refl)

  -- a claim on a group elsewhere says nothing here
  pub AreCommitted-elsewhere : (tables : Group → Content) (slice : GroupsOfSlice) (claim : ClaimView) (claims : List ClaimView) → IsElsewhere here claim → AreCommitted here tables slice claims → AreCommitted here tables slice (claim ∷ claims)
  AreCommitted-elsewhere tables slice claim claims away h = record {
    tickets = λ group near. omega (arith, sum_by-cons (tickets_of group) claim claims, tickets_of_other group claim (far group claim away near), h.tickets group near);
    recorded = All-cons (RecordsHere here tables) claim claims (λ near. not_here claim away near) h.recorded;
    left = All-cons (LeavesHere here slice.rows) claim claims (λ near. not_here claim away near) h.left;
    others = λ group near none. h.others group near (omega (arith, none, sum_by-cons (exclusive_of group) claim claims));
  }

  pub AreCommitted-without : (tables : Group → Content) (slice : GroupsOfSlice) (claim : ClaimView) (claims : List ClaimView) → IsElsewhere here claim → AreCommitted here tables slice (claim ∷ claims) → AreCommitted here tables slice claims
  AreCommitted-without tables slice claim claims away h = record {
    tickets = λ group near. omega (arith, sum_by-cons (tickets_of group) claim claims, tickets_of_other group claim (far group claim away near), h.tickets group near);
    recorded = All-tail (RecordsHere here tables) claim claims h.recorded;
    left = All-tail (LeavesHere here slice.rows) claim claims h.left;
    others = λ group near none. h.others group near (omega (arith, none, sum_by-cons (exclusive_of group) claim claims, exclusive_of_other group claim (far group claim away near)));
  }

  -- where an exclusive claim on a group here is out, no ticket of the group is at home, and no other claim on it is out
  pub AreCommitted-alone : (tables : Group → Content) (slice : GroupsOfSlice) (claim : ClaimView) (claims : List ClaimView) → AreCommitted here tables slice (claim ∷ claims) → IsTrue (here claim.group) → claim.mode ≡ Exclusive
      → (slice.free claim.group ≡ 0) × All (λ other. other.group ≢ claim.group) claims
  AreCommitted-alone tables slice claim claims h near shown =
      let eight : tickets_held claim.mode ≡ 8 = ap tickets_held shown in
      let none : tickets_out claim.group claims ≡ 0 = omega (arith, eight, h.tickets claim.group near, sum_by-cons (tickets_of claim.group) claim claims, tickets_of_same claim) in
      (omega (arith, eight, h.tickets claim.group near, sum_by-cons (tickets_of claim.group) claim claims, tickets_of_same claim), none_on claim.group claims none)

  -- ---- a claim is granted

  grant_here : (tables : Group → Content) (old new : GroupsOfSlice) (claim : ClaimView) (claims : List ClaimView) → IsGrant claim old new → IsTrue (here claim.group) → AreCommitted here tables old claims → AreCommitted here tables new (claim ∷ claims)
  grant_here tables old new claim claims grant near h =
      let none : exclusive_out claim.group claims ≡ 0 = omega (arith, eight_out claim.group claims, h.tickets claim.group near, grant.tickets, some_tickets claim.mode) in
      record {
        tickets = λ group near_too. ⊎_elim
            (λ (is : (is_same claim.group group ≡ true) × (claim.group ≡ group)). let P : Group → Type 0 = λ g. tickets_out g (claim ∷ claims) + new.free g ≡ 8 in subst P is.1 (omega (arith, sum_by-cons (tickets_of claim.group) claim claims, tickets_of_same claim, h.tickets claim.group near, grant.tickets)))
            (λ (is : (is_same claim.group group ≡ false) × (claim.group ≢ group)). omega (arith, sum_by-cons (tickets_of group) claim claims, tickets_of_other group claim (λ e. is.1 (sym e)), h.tickets group near_too, grant.others group (λ e. is.1 (sym e))))
            (apart claim.group group);
        recorded = All-cons (RecordsHere here tables) claim claims (λ _. sym (h.others claim.group near none) ∙ sym grant.recorded) h.recorded;
        left = All-cons (LeavesHere here new.rows) claim claims (λ _ _. grant.rows claim.group ∙ sym grant.left) (λ k d in' near_too shown. grant.rows (get_or claims k d).group ∙ h.left k d in' near_too shown);
        others = λ group near_too zero. grant.rows group ∙ h.others group near_too (omega (arith, zero, sum_by-cons (exclusive_of group) claim claims));
      }

  pub grant_keeps : (claim : ClaimView) (old new : GroupsOfSlice) → IsGrant claim old new → KeepsCommitted here [] old (claim ∷ []) new
  grant_keeps claim old new grant = λ tables others h. by_bool (here claim.group) refl
      (λ near. grant_here tables old new claim others grant near h)
      (λ away. AreCommitted-elsewhere tables new claim others away
      (AreCommitted-same tables tables old new others (λ _ _. refl) (λ group _. grant.rows group) (λ group near. grant.others group (far group claim away near)) h))

  -- ---- the content of an exclusively claimed group changes

  write_here : (tables : Group → Content) (old new : GroupsOfSlice) (was now : ClaimView) (claims : List ClaimView) → IsWrite was now old new → IsTrue (here was.group) → AreCommitted here tables old (was ∷ claims) → AreCommitted here tables new (now ∷ claims)
  write_here tables old new was now claims write near h =
      let next : ClaimView = leaving was now.left in
      let alone = (AreCommitted-alone tables old was claims h near write.exclusive).1 in
      subst (λ (c : ClaimView). AreCommitted here tables new (c ∷ claims)) (sym write.claim) (record {
        tickets = λ group near_too. omega (arith, sum_by-cons (tickets_of group) next claims, sum_by-cons (tickets_of group) was claims, h.tickets group near_too, write.free group);
        recorded = All-cons (RecordsHere here tables) next claims (All-head (RecordsHere here tables) was claims h.recorded) (All-tail (RecordsHere here tables) was claims h.recorded);
        left = All-cons (LeavesHere here new.rows) next claims (λ _ _. write.rows)
            (λ k d in' near_too shown. write.others (get_or claims k d).group (alone k d in') ∙ All-tail (LeavesHere here old.rows) was claims h.left k d in' near_too shown);
        others = λ group near_too zero.
            let differ : group ≢ was.group = λ e. (let P : Group → Type 0 = λ g. exclusive_out g (next ∷ claims) ≡ 0 in let z : exclusive_out was.group (next ∷ claims) ≡ 0 = subst P e zero in omega (arith, z, sum_by-cons (exclusive_of was.group) next claims, exclusive_of_same next write.exclusive)) in
            write.others group differ ∙ h.others group near_too (omega (arith, zero, sum_by-cons (exclusive_of group) next claims, sum_by-cons (exclusive_of group) was claims));
      })

  pub write_keeps : (was now : ClaimView) (old new : GroupsOfSlice) → IsWrite was now old new → KeepsCommitted here (was ∷ []) old (now ∷ []) new
  write_keeps was now old new write = λ tables others h. by_bool (here was.group) refl
      (λ near. write_here tables old new was now others write near h)
      (λ away.
      let still : IsElsewhere here now = ap (λ (c : ClaimView). here c.group) write.claim ∙ away in
      AreCommitted-elsewhere tables new now others still
      (AreCommitted-same tables tables old new others (λ _ _. refl) (λ group near. write.others group (far group was away near)) (λ group _. write.free group)
      (AreCommitted-without tables old was others away h)))

  -- ---- a claim is given back

  free_again : (tables : Group → Content) (old : GroupsOfSlice) (claim : ClaimView) (claims : List ClaimView) → (claim.mode ≡ Exclusive → claim.recorded ≡ claim.left) → IsTrue (here claim.group) → AreCommitted here tables old (claim ∷ claims)
      → (group : Group) → IsTrue (here group) → exclusive_out group claims ≡ 0 → old.rows group ≡ tables group
  free_again tables old claim claims same near h group near_too none = ⊎_elim
      (λ (is : (is_same claim.group group ≡ true) × (claim.group ≡ group)).
      let P : Group → Type 0 = λ g. old.rows g ≡ tables g in
      by_mode claim.mode refl
      (λ shown. subst P is.1 (All-head (LeavesHere here old.rows) claim claims h.left near shown ∙ sym (same shown) ∙ sym (All-head (RecordsHere here tables) claim claims h.recorded near)))
      (λ shared. h.others group near_too (omega (arith, none, sum_by-cons (exclusive_of group) claim claims, exclusive_of_shared group claim shared))))
      (λ (is : (is_same claim.group group ≡ false) × (claim.group ≢ group)). h.others group near_too (omega (arith, none, sum_by-cons (exclusive_of group) claim claims, exclusive_of_other group claim (λ e. is.1 (sym e)))))
      (apart claim.group group)

  give_back_here : (tables : Group → Content) (old new : GroupsOfSlice) (claim : ClaimView) (claims : List ClaimView) → IsGivenBack claim old new → IsTrue (here claim.group) → AreCommitted here tables old (claim ∷ claims) → AreCommitted here tables new claims
  give_back_here tables old new claim claims back near h = record {
    tickets = λ group near_too. ⊎_elim
        (λ (is : (is_same claim.group group ≡ true) × (claim.group ≡ group)). let P : Group → Type 0 = λ g. tickets_out g claims + new.free g ≡ 8 in subst P is.1 (omega (arith, sum_by-cons (tickets_of claim.group) claim claims, tickets_of_same claim, h.tickets claim.group near, back.tickets)))
        (λ (is : (is_same claim.group group ≡ false) × (claim.group ≢ group)). omega (arith, sum_by-cons (tickets_of group) claim claims, tickets_of_other group claim (λ e. is.1 (sym e)), h.tickets group near_too, back.others group (λ e. is.1 (sym e))))
        (apart claim.group group);
    recorded = All-tail (RecordsHere here tables) claim claims h.recorded;
    left = λ k d in' near_too shown. back.rows (get_or claims k d).group ∙ All-tail (LeavesHere here old.rows) claim claims h.left k d in' near_too shown;
    others = λ group near_too none. back.rows group ∙ free_again tables old claim claims back.settled near h group near_too none;
  }

  pub give_back_keeps : (claim : ClaimView) (old new : GroupsOfSlice) → IsGivenBack claim old new → KeepsCommitted here (claim ∷ []) old [] new
  give_back_keeps claim old new back = λ tables others h. by_bool (here claim.group) refl
      (λ near. give_back_here tables old new claim others back near h)
      (λ away. AreCommitted-same tables tables old new others (λ _ _. refl) (λ group _. back.rows group) (λ group near. back.others group (far group claim away near))
      (AreCommitted-without tables old claim others away h))

  -- ---- what claims left is committed

  commit_exclusive : (tables : Group → Content) (slice : GroupsOfSlice) (claim : ClaimView) (claims : List ClaimView) → claim.mode ≡ Exclusive → IsTrue (here claim.group) → AreCommitted here tables slice (claim ∷ claims) → AreCommitted here (after_claim tables claim) slice (settled claim ∷ claims)
  commit_exclusive tables slice claim claims shown near h =
      let alone = (AreCommitted-alone tables slice claim claims h near shown).1 in
      let next : Group → Content = λ group. if is_same claim.group group then claim.left else tables group in
      let now : ClaimView = record { by = claim.by; group = claim.group; mode = claim.mode; recorded = claim.left; left = claim.left; back = claim.back } in
      let at : next claim.group ≡ claim.left = ap (λ (b : Bool). if b then claim.left else tables claim.group) (is_same-itself claim.group) in
      let rest : (group : Group) → group ≢ claim.group → next group ≡ tables group = λ group differ. ap (λ (b : Bool). if b then claim.left else tables group) (is_same-other claim.group group differ) in
      let P : Mode → Type 0 = λ m. AreCommitted here (λ group. if is_same claim.group group then committed_by m claim.left (tables group) else tables group) slice (record { by = claim.by; group = claim.group; mode = claim.mode; recorded = committed_by m claim.left claim.recorded; left = claim.left; back = claim.back } ∷ claims) in
      subst P (sym shown) (record {
        tickets = λ group near_too. omega (arith, sum_by-cons (tickets_of group) now claims, sum_by-cons (tickets_of group) claim claims, h.tickets group near_too);
        recorded = All-cons (RecordsHere here next) now claims (λ _. at) (λ k d in' near_too. rest (get_or claims k d).group (alone k d in') ∙ All-tail (RecordsHere here tables) claim claims h.recorded k d in' near_too);
        left = All-cons (LeavesHere here slice.rows) now claims (All-head (LeavesHere here slice.rows) claim claims h.left) (All-tail (LeavesHere here slice.rows) claim claims h.left);
        others = λ group near_too zero.
            let differ : group ≢ claim.group = λ e. (let Q : Group → Type 0 = λ g. exclusive_out g (now ∷ claims) ≡ 0 in let z : exclusive_out claim.group (now ∷ claims) ≡ 0 = subst Q e zero in omega (arith, z, sum_by-cons (exclusive_of claim.group) now claims, exclusive_of_same now shown)) in
            h.others group near_too (omega (arith, zero, sum_by-cons (exclusive_of group) now claims, sum_by-cons (exclusive_of group) claim claims)) ∙ sym (rest group differ);
      })

  either : (b : Bool) (content : Content) → (if b then content else content) ≡ content
  either true content = refl
  either false content = refl

  commit_shared : (tables : Group → Content) (slice : GroupsOfSlice) (claim : ClaimView) (claims : List ClaimView) → claim.mode ≡ Shared → AreCommitted here tables slice (claim ∷ claims) → AreCommitted here (after_claim tables claim) slice (settled claim ∷ claims)
  commit_shared tables slice claim claims shared h =
      let P : Mode → Type 0 = λ m. AreCommitted here (λ group. if is_same claim.group group then committed_by m claim.left (tables group) else tables group) slice (record { by = claim.by; group = claim.group; mode = claim.mode; recorded = committed_by m claim.left claim.recorded; left = claim.left; back = claim.back } ∷ claims) in
      subst P (sym shared)
      (AreCommitted-same tables (λ group. if is_same claim.group group then tables group else tables group) slice slice (claim ∷ claims) (λ group _. either (is_same claim.group group) (tables group)) (λ _ _. refl) (λ _ _. refl) h)

  commit_one : (tables : Group → Content) (slice : GroupsOfSlice) (claim : ClaimView) (claims : List ClaimView) → AreCommitted here tables slice (claim ∷ claims) → AreCommitted here (after_claim tables claim) slice (settled claim ∷ claims)
  commit_one tables slice claim claims h = by_bool (here claim.group) refl
      (λ near. by_mode claim.mode refl (λ shown. commit_exclusive tables slice claim claims shown near h) (λ shared. commit_shared tables slice claim claims shared h))
      (λ away. AreCommitted-elsewhere (after_claim tables claim) slice (settled claim) claims away
      (AreCommitted-same tables (after_claim tables claim) slice slice claims
      (λ group near. ap (λ (b : Bool). if b then committed_by claim.mode claim.left (tables group) else tables group) (is_same-other claim.group group (far group claim away near)))
      (λ _ _. refl) (λ _ _. refl) (AreCommitted-without tables slice claim claims away h)))

  pub AreCommitted-commit : (tables : Group → Content) (slice : GroupsOfSlice) (own others : List ClaimView) → AreCommitted here tables slice (own ++ others) → AreCommitted here (after_claims tables own) slice (all_settled own ++ others)
  AreCommitted-commit tables slice [] others h = h
  AreCommitted-commit tables slice (claim ∷ own) others h =
      let one = commit_one tables slice claim (own ++ others) h in
      let there = AreCommitted-permutation (after_claim tables claim) slice (settled claim ∷ (own ++ others)) (own ++ (settled claim ∷ others)) (to_middle own others (settled claim)) one in
      let rest = AreCommitted-commit (after_claim tables claim) slice own (settled claim ∷ others) there in
      AreCommitted-permutation (after_claims (after_claim tables claim) own) slice (all_settled own ++ (settled claim ∷ others)) (settled claim ∷ (all_settled own ++ others))
      (IsPermutation-sym (settled claim ∷ (all_settled own ++ others)) (all_settled own ++ (settled claim ∷ others)) (to_middle (all_settled own) others (settled claim))) rest

  -- ---- what is kept by several steps

  pub keeps_framed : (before after more : List ClaimView) (old new : GroupsOfSlice) → KeepsCommitted here before old after new → KeepsCommitted here (before ++ more) old (after ++ more) new
  keeps_framed before after more old new kept = λ tables others h.
      subst (λ claims. AreCommitted here tables new claims) (sym (append_assoc after more others))
      (kept tables (more ++ others) (subst (λ claims. AreCommitted here tables old claims) (append_assoc before more others) h))

  pub keeps_permuted : (before first after last : List ClaimView) (old new : GroupsOfSlice) → IsPermutation first before → IsPermutation after last → KeepsCommitted here before old after new → KeepsCommitted here first old last new
  keeps_permuted before first after last old new at_first at_last kept = λ tables others h.
      AreCommitted-permutation tables new (after ++ others) (last ++ others) (IsPermutation-append_left others after last at_last)
      (kept tables others (AreCommitted-permutation tables old (first ++ others) (before ++ others) (IsPermutation-append_left others first before at_first) h))

  all_without : (tables : Group → Content) (slice : GroupsOfSlice) (claims others : List ClaimView) → All (IsElsewhere here) claims → AreCommitted here tables slice (claims ++ others) → AreCommitted here tables slice others
  all_without tables slice [] others away h = h
  all_without tables slice (claim ∷ claims) others away h =
      all_without tables slice claims others (All-tail (IsElsewhere here) claim claims away)
      (AreCommitted-without tables slice claim (claims ++ others) (All-head (IsElsewhere here) claim claims away) h)

  all_elsewhere : (tables : Group → Content) (slice : GroupsOfSlice) (claims others : List ClaimView) → All (IsElsewhere here) claims → AreCommitted here tables slice others → AreCommitted here tables slice (claims ++ others)
  all_elsewhere tables slice [] others away h = h
  all_elsewhere tables slice (claim ∷ claims) others away h =
      AreCommitted-elsewhere tables slice claim (claims ++ others) (All-head (IsElsewhere here) claim claims away)
      (all_elsewhere tables slice claims others (All-tail (IsElsewhere here) claim claims away) h)

  pub elsewhere_keeps : (before after : List ClaimView) (slice : GroupsOfSlice) → All (IsElsewhere here) before → All (IsElsewhere here) after → KeepsCommitted here before slice after slice
  elsewhere_keeps before after slice first last = λ tables others h. all_elsewhere tables slice after others last (all_without tables slice before others first h)

  -- ---- at rest

  pub rest_is_committed : (tables : Group → Content) (slice : GroupsOfSlice) → IsAtRest here tables slice ↔ AreCommitted here tables slice []
  rest_is_committed tables slice = (
    (λ rest. record {
      tickets = λ group near. omega (arith, rest.free group near, nothing_out group);
      recorded = All-nil (RecordsHere here tables);
      left = All-nil (LeavesHere here slice.rows);
      others = λ group near _. rest.rows group near;
    }),
    (λ committed. record {
      free = λ group near. omega (arith, committed.tickets group near, nothing_out group);
      rows = λ group near. committed.others group near refl;
    }),
  )
    where
      nothing_out : (group : Group) → tickets_out group [] ≡ 0
      nothing_out group = refl
