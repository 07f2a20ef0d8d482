-- The rows of a table that belong to a group, before and after a row was put into the table or taken away.
use Rattle.std.proofs.Common.{◌≡◌, ◌≢◌, Bool, true, false, cond, Option, Some, None, refl, sym, ap, ◌∙◌}
use Rattle.std.proofs.lemmas.Cmp.{tied_itself}
use Rattle.std.specs.declared.cmp.Ordering.{Ordering}
use Rattle.std.specs.declared.cmp.Ordering.TheVariants.{Less, Equal, Greater}
use Rattle.std.specs.Ordering.{eq_by_cmp, is_eq}
use Rattle.std.specs.Cmp.{IsTotalOrder}
use Rattle.std.specs.FinMap.{FinMap, entries, entries_sorted, entries-from_sorted, from_sorted, get, insert, remove, retain_keys, get-entries, get-from_sorted, get-insert, get-remove, get-retain_keys, same_map, IsAntisymmetric}
use Rattle.std.specs.FinMap.Entries.{find-where_key, is_sorted-where_key, where_key}
use Rattle.schema.proofs.TableSums.{part-insert_inside, part-insert_outside}
use Rattle.requests.specs.declared.group.Group.{Group}
use Rattle.groups.specs.Content.{rows_of}
use Rattle.groups.specs.Groups.{is_same}
use Rattle.groups.proofs.SameGroups.{is_same-itself, is_same-other}

module _ {K X : Type 0} {R : K → K → Ordering} (o : IsTotalOrder R) (a : IsAntisymmetric R) where
  -- ---- one row

  -- the row that was put in is found at its key
  pub get-insert_here : (m : FinMap R X) (k : K) (v : X) → get (insert m k v) k ≡ Some v
  get-insert_here m k v = get-insert o m k v k ∙ ap (λ r. cond (is_eq r) (Some v) (get m k)) (tied_itself o k)

  -- and every other row as before
  pub get-insert_elsewhere : (m : FinMap R X) (k : K) (v : X) (q : K) → q ≢ k → get (insert m k v) q ≡ get m q
  get-insert_elsewhere m k v q apart =
      get-insert o m k v q
      ∙ elim (R q k) as (λ r. R q k ≡ r → cond (is_eq r) (Some v) (get m q) ≡ get m q) [
        | Less ↦ λ e. refl
        | Equal ↦ λ e. absurd (apart (a q k e))
        | Greater ↦ λ e. refl
      ] refl

  -- the entries of a part are those whose keys pass the test
  pub entries-where : (m : FinMap R X) (p : K → Bool) → entries (retain_keys m p) ≡ where_key R p (entries m)
  entries-where m p =
      let es = where_key R p (entries m) in
      let sorted = is_sorted-where_key R p (entries m) (entries_sorted m) in
      let alike = λ (q x : K) (tied : R q x ≡ Equal). ap p (sym (a q x tied)) in
      let same = same_map o a (retain_keys m p) (from_sorted es)
      (λ q. get-retain_keys m p q (alike q) ∙ ap (λ row. cond (p q) row None) (get-entries m q) ∙ sym (find-where_key R p q (alike q) (entries m)) ∙ sym (get-from_sorted R es q sorted)) in
      ap entries same ∙ entries-from_sorted R es sorted

  -- ---- the rows of a group

  module _ (own : K → Group) where
    get-rows_of : (group : Group) (m : FinMap R X) (q : K) → get (rows_of own group m) q ≡ cond (is_same (own q) group) (get m q) None
    get-rows_of group m q = get-retain_keys m _ q (λ x e. ap (λ k. is_same (own k) group) (sym (a q x e)))

    pub get-rows_of-own : (m : FinMap R X) (q : K) → get (rows_of own (own q) m) q ≡ get m q
    get-rows_of-own m q = get-rows_of (own q) m q ∙ ap (λ b. cond b (get m q) None) (is_same-itself (own q))

    pub get-rows_of-other : (group : Group) (m : FinMap R X) (q : K) → group ≢ own q → get (rows_of own group m) q ≡ None
    get-rows_of-other group m q apart = get-rows_of group m q ∙ ap (λ b. cond b (get m q) None) (is_same-other (own q) group apart)

    pub rows_of-insert_own : (m : FinMap R X) (k : K) (v : X) → rows_of own (own k) (insert m k v) ≡ insert (rows_of own (own k) m) k v
    rows_of-insert_own m k v = part-insert_inside o a m _ k v (is_same-itself (own k))

    pub rows_of-insert_other : (group : Group) (m : FinMap R X) (k : K) (v : X) → group ≢ own k → rows_of own group (insert m k v) ≡ rows_of own group m
    rows_of-insert_other group m k v apart = part-insert_outside o a m _ k v (is_same-other (own k) group apart)

    none_there : (b : Bool) → cond b (let none : Option X = None in none) None ≡ None
    none_there true = refl
    none_there false = refl

    -- a row that is taken away is taken away from each group's rows
    rows_of-remove : (group : Group) (m : FinMap R X) (k : K) → rows_of own group (remove m k) ≡ remove (rows_of own group m) k
    rows_of-remove group m k = same_map o a _ _ (λ q.
        get-rows_of group (remove m k) q ∙ ap (λ x. cond (is_same (own q) group) x None) (get-remove o m k q)
        ∙ elim (eq_by_cmp R q k) as (λ b. cond (is_same (own q) group) (cond b None (get m q)) None ≡ cond b None (cond (is_same (own q) group) (get m q) None)) [
          | true ↦ none_there (is_same (own q) group)
          | false ↦ refl
        ]
        ∙ sym (get-remove o (rows_of own group m) k q ∙ ap (λ x. cond (eq_by_cmp R q k) None x) (get-rows_of group m q)))

    pub rows_of-remove_own : (m : FinMap R X) (k : K) → rows_of own (own k) (remove m k) ≡ remove (rows_of own (own k) m) k
    rows_of-remove_own m k = rows_of-remove (own k) m k

    -- which has none there, where it is another group
    pub rows_of-remove_other : (group : Group) (m : FinMap R X) (k : K) → group ≢ own k → rows_of own group (remove m k) ≡ rows_of own group m
    rows_of-remove_other group m k apart = rows_of-remove group m k ∙ same_map o a _ _ (λ q.
        get-remove o (rows_of own group m) k q
        ∙ elim (R q k) as (λ r. R q k ≡ r → cond (is_eq r) None (get (rows_of own group m) q) ≡ get (rows_of own group m) q) [
          | Less ↦ λ e. refl
          | Equal ↦ λ e. sym (ap (get (rows_of own group m)) (a q k e) ∙ get-rows_of-other group m k apart)
          | Greater ↦ λ e. refl
        ] refl)
