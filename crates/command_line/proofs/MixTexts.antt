-- The cards that the parts of a mix's text give, by induction on the parts.
use Rattle.std.proofs.Common.{◌≡◌, ◌≢◌, ◌≤◌, ◌<◌, ◌+◌, ℕ, zero, suc, Bool, true, false, cond, eqb, List, [], ◌∷◌, ◌++◌, length, map, take, drop, get_or, Option, None, Some, inl, inr, refl, sym, ap, ap₂, subst, ◌∙◌, codes, append-nil, arith}
use Rattle.std.specs.Prelude.{slice_index, slice_index_or, slice_set, unwrap_or, is_some, IfSome}
use Rattle.std.specs.Fmt.{decimal}
use Rattle.std.specs.List.{Contains, slice_split}
use Rattle.std.proofs.lemmas.Bool.{eq-eqb, ne_eqb}
use Rattle.std.proofs.lemmas.Bool.Decides.{eqb_tells}
use Rattle.std.proofs.lemmas.Fmt.{decimal_injective}
use Rattle.std.proofs.lemmas.List.{take-append-drop, drop_more, take_more, take_all, map-append, get_or-map}
use Rattle.workload.specs.declared.mix.Mix.{Mix}
use Rattle.workload.specs.Limits.{IsMix}
use Rattle.command_line.specs.MixText.{AreCards, IsMixText, cards_text, reported_of}

-- ---- one kind more

-- the kind's own number, if it was not given before
reported-new : (letter count : ℕ) (cards : List (ℕ × ℕ)) → reported_of cards letter ≡ None → reported_of (cards ++ (letter, count) ∷ []) letter ≡ Some count
reported-new letter count [] none = ap (λ (b : Bool). cond b (Some count) None) (eq-eqb letter letter refl)
reported-new letter count (one ∷ cards) none =
    let If : Bool → Option ℕ → Option ℕ = λ b rest. cond b (Some one.1) rest in
    elim (eqb_tells one.0 letter) [
      | inl h ↦ let no : Some one.1 ≡ None = sym (ap (λ (b : Bool). If b (reported_of cards letter)) h.0) ∙ none in absurd cc
      | inr h ↦
          let before : reported_of cards letter ≡ None = sym (ap (λ (b : Bool). If b (reported_of cards letter)) h.0) ∙ none in
          ap (λ (b : Bool). If b (reported_of (cards ++ (letter, count) ∷ []) letter)) h.0 ∙ reported-new letter count cards before
    ]

-- another kind's is as before
reported-other : (letter count other : ℕ) → other ≢ letter → (cards : List (ℕ × ℕ)) → reported_of (cards ++ (letter, count) ∷ []) other ≡ reported_of cards other
reported-other letter count other apart [] = ap (λ (b : Bool). cond b (Some count) None) (ne_eqb letter other (λ e. apart (sym e)))
reported-other letter count other apart (one ∷ cards) = ap (λ (rest : Option ℕ). cond (eqb one.0 other) (Some one.1) rest) (reported-other letter count other apart cards)

-- a kind that is given stays given
reported-there : (letter count : ℕ) (more cards : List (ℕ × ℕ)) → reported_of (cards ++ (letter, count) ∷ more) letter ≡ None → ⊥
reported-there letter count more [] none =
    let is : cond (eqb letter letter) (Some count) (reported_of more letter) ≡ Some count = ap (λ (b : Bool). cond b (Some count) (reported_of more letter)) (eq-eqb letter letter refl) in
    let no : Some count ≡ None = sym is ∙ none in
    absurd cc
reported-there letter count more (one ∷ cards) none =
    let If : Bool → Option ℕ = λ b. cond b (Some one.1) (reported_of (cards ++ (letter, count) ∷ more) letter) in
    elim (eqb_tells one.0 letter) [
      | inl h ↦ let no : Some one.1 ≡ None = sym (ap If h.0) ∙ none in absurd cc
      | inr h ↦ reported-there letter count more cards (sym (ap If h.0) ∙ none)
    ]

are_cards-push : (letter count : ℕ) → Contains (codes "NPODL") letter → count ≤ 1000 → (cards : List (ℕ × ℕ)) → AreCards cards → reported_of cards letter ≡ None
    → AreCards (cards ++ (letter, count) ∷ [])
are_cards-push letter count known few [] are none = (known, few, refl, tt)
are_cards-push letter count known few (one ∷ cards) are none =
    let If : Bool → Option ℕ = λ b. cond b (Some one.1) (reported_of cards letter) in
    elim (eqb_tells one.0 letter) [
      | inl h ↦ let no : Some one.1 ≡ None = sym (ap If h.0) ∙ none in absurd cc
      | inr h ↦
          (are.0, are.1, reported-other letter count one.0 h.1 cards ∙ are.2, are_cards-push letter count known few cards are.3 (sym (ap If h.0) ∙ none))
    ]

-- each kind was given once at most
apart : (letter count : ℕ) (more cards : List (ℕ × ℕ)) → AreCards (cards ++ (letter, count) ∷ more)
    → Contains (codes "NPODL") letter × (count ≤ 1000) × (reported_of cards letter ≡ None)
apart letter count more [] are = (are.0, are.1, refl)
apart letter count more (one ∷ cards) are =
    let rest = apart letter count more cards are.3 in
    let other : one.0 ≢ letter = λ e. reported-there letter count more cards (subst (λ (l : ℕ). reported_of (cards ++ (letter, count) ∷ more) l ≡ None) e are.2) in
    (rest.0, rest.1, ap (λ (b : Bool). cond b (Some one.1) (reported_of cards letter)) (ne_eqb one.0 letter other) ∙ rest.2)

-- ---- a text is that of one number of cards

same_cards : (a b : ℕ × ℕ) → a.1 ≤ 1000 → b.1 ≤ 1000 → cards_text a ≡ cards_text b → a ≡ b
same_cards a b few few' e =
    let letters : a.0 ≡ b.0 = cc in
    let texts : decimal a.1 ≡ decimal b.1 = cc in
    let counts : a.1 ≡ b.1 = decimal_injective a.1 b.1 (omega arith) (omega arith) texts in
    ap₂ (λ (x y : ℕ). (x, y)) letters counts

-- the cards of more texts begin with those of the first texts
begins : (cards all : List (ℕ × ℕ)) (rest : List (List ℕ)) → AreCards cards → AreCards all → map cards_text all ≡ map cards_text cards ++ rest
    → (more : List (ℕ × ℕ)) × (all ≡ cards ++ more) × (rest ≡ map cards_text more)
begins [] all rest are are' e = (all, refl, sym e)
begins (one ∷ cards) [] rest are are' e = absurd cc
begins (one ∷ cards) (other ∷ all) rest are are' e =
    let heads : cards_text other ≡ cards_text one = cc in
    let tails : map cards_text all ≡ map cards_text cards ++ rest = cc in
    let next = begins cards all rest are.3 are'.3 tails in
    (next.0, ap₂ (λ (x : ℕ × ℕ) (xs : List (ℕ × ℕ)). x ∷ xs) (same_cards other one are'.1 are.1 heads) next.1, next.2)

-- ---- the five numbers

counts-push : (cards : List (ℕ × ℕ)) (place count : ℕ) → place < 5 → reported_of cards (slice_index (codes "NPODL") place) ≡ None
    → map (reported_of (cards ++ (slice_index (codes "NPODL") place, count) ∷ [])) (codes "NPODL") ≡ slice_set (map (reported_of cards) (codes "NPODL")) place (Some count)
counts-push cards zero count here none =
    let n = reported-new 78 count cards none in
    let p = reported-other 78 count 80 (λ e. omega arith) cards in
    let o = reported-other 78 count 79 (λ e. omega arith) cards in
    let d = reported-other 78 count 68 (λ e. omega arith) cards in
    let l = reported-other 78 count 76 (λ e. omega arith) cards in
    cc
counts-push cards (suc zero) count here none =
    let n = reported-other 80 count 78 (λ e. omega arith) cards in
    let p = reported-new 80 count cards none in
    let o = reported-other 80 count 79 (λ e. omega arith) cards in
    let d = reported-other 80 count 68 (λ e. omega arith) cards in
    let l = reported-other 80 count 76 (λ e. omega arith) cards in
    cc
counts-push cards (suc (suc zero)) count here none =
    let n = reported-other 79 count 78 (λ e. omega arith) cards in
    let p = reported-other 79 count 80 (λ e. omega arith) cards in
    let o = reported-new 79 count cards none in
    let d = reported-other 79 count 68 (λ e. omega arith) cards in
    let l = reported-other 79 count 76 (λ e. omega arith) cards in
    cc
counts-push cards (suc (suc (suc zero))) count here none =
    let n = reported-other 68 count 78 (λ e. omega arith) cards in
    let p = reported-other 68 count 80 (λ e. omega arith) cards in
    let o = reported-other 68 count 79 (λ e. omega arith) cards in
    let d = reported-new 68 count cards none in
    let l = reported-other 68 count 76 (λ e. omega arith) cards in
    cc
counts-push cards (suc (suc (suc (suc zero)))) count here none =
    let n = reported-other 76 count 78 (λ e. omega arith) cards in
    let p = reported-other 76 count 80 (λ e. omega arith) cards in
    let o = reported-other 76 count 79 (λ e. omega arith) cards in
    let d = reported-other 76 count 68 (λ e. omega arith) cards in
    let l = reported-new 76 count cards none in
    cc
counts-push cards (suc (suc (suc (suc (suc k))))) count here none = absurd (omega arith)

-- ---- the text, one part after the other

-- so many parts were read, and these numbers were given so far
pub record Reads (word : List ℕ) (counts : List (Option ℕ)) (n : ℕ) : Type 0 where
  pub cards : List (ℕ × ℕ)
  pub texts : take n (slice_split (λ byte. eqb byte 44) word) ≡ map cards_text cards
  pub are_cards : AreCards cards
  pub counts_are : counts ≡ map (reported_of cards) (codes "NPODL")

pub reads-none : (word : List ℕ) → Reads word (None ∷ None ∷ None ∷ None ∷ None ∷ []) 0
reads-none word = record { cards = []; texts = refl; are_cards = tt; counts_are = refl }

nothing : (more : List (ℕ × ℕ)) → [] ≡ map cards_text more → more ≡ []
nothing [] e = refl
nothing (one ∷ more) e = absurd cc

-- the parts of the word
abbrev pub parts_of : List ℕ → List (List ℕ)
parts_of word = slice_split (λ byte. eqb byte 44) word

module _ (word : List ℕ) (counts : List (Option ℕ)) (n : ℕ) (reads : Reads word counts n) where
  -- ---- the next part

  module _ (part : List ℕ) (here : n < length (parts_of word)) (is : part ≡ get_or (parts_of word) n part) where
    parted : parts_of word ≡ map cards_text reads.cards ++ (part ∷ drop (n + 1) (parts_of word))
    parted = sym (take-append-drop n (parts_of word))
        ∙ ap₂ (λ (xs ys : List (List ℕ)). xs ++ ys) reads.texts (drop_more (parts_of word) n part here ∙ ap (λ (x : List ℕ). x ∷ drop (n + 1) (parts_of word)) (sym is))

    of_more : (more : List (ℕ × ℕ)) → AreCards (reads.cards ++ more) → part ∷ drop (n + 1) (parts_of word) ≡ map cards_text more
        → (letter : ℕ) × (count : ℕ) × (part ≡ cards_text (letter, count)) × Contains (codes "NPODL") letter × (count ≤ 1000) × (reported_of reads.cards letter ≡ None)
    of_more [] are e = absurd cc
    of_more (one ∷ more) are e =
        let known = apart one.0 one.1 more reads.cards are in
        let first : part ≡ cards_text one = cc in
        (one.0, one.1, first, known.0, known.1, known.2)

    -- if the word is a mix's text, the part gives a kind that was not given so far
    next : (mix : Mix) → IsMixText word mix → (letter : ℕ) × (count : ℕ) × (part ≡ cards_text (letter, count)) × Contains (codes "NPODL") letter × (count ≤ 1000) × (reported_of reads.cards letter ≡ None)
    next mix text =
        let more = begins reads.cards text.cards (part ∷ drop (n + 1) (parts_of word)) reads.are_cards text.are_cards (sym text.text ∙ parted) in
        of_more more.0 (subst AreCards more.1 text.are_cards) more.2

    -- it is no mix's text if the part gives no kind
    pub fails_by_part : ((letter count : ℕ) → Contains (codes "NPODL") letter → count ≤ 1000 → part ≢ cards_text (letter, count)) → (mix : Mix) → IsMixText word mix → ⊥
    fails_by_part none mix text = let one = next mix text in none one.0 one.1 one.3 one.4 one.2

    module _ (place count : ℕ) (low : place < 5) (few : count ≤ 1000) (reports : part ≡ cards_text (slice_index (codes "NPODL") place, count)) where
      counted : slice_index_or counts place None ≡ reported_of reads.cards (slice_index (codes "NPODL") place)
      counted =
          ap (λ (l : List (Option ℕ)). slice_index_or l place None) reads.counts_are
          ∙ get_or-map (reported_of reads.cards) (codes "NPODL") place 0 None low

      -- nor if the part gives a kind again
      pub fails_by_kind : is_some (slice_index_or counts place None) ≡ true → (mix : Mix) → IsMixText word mix → ⊥
      fails_by_kind there mix text =
          let one = next mix text in
          let letters : one.0 ≡ slice_index (codes "NPODL") place = let e : cards_text (one.0, one.1) ≡ cards_text (slice_index (codes "NPODL") place, count) = sym one.2 ∙ reports in cc in
          let none : slice_index_or counts place None ≡ None = counted ∙ ap (reported_of reads.cards) (sym letters) ∙ one.5 in
          let no : true ≡ false = sym there ∙ ap is_some none in
          absurd cc

      none_reported : (reported : Option ℕ) → is_some reported ≡ false → reported ≡ None
      none_reported None e = refl
      none_reported (Some x) e = absurd cc

      pub reads-more : is_some (slice_index_or counts place None) ≡ false → Reads word (slice_set counts place (Some count)) (n + 1)
      reads-more not_there =
          let letter = slice_index (codes "NPODL") place in
          let none : reported_of reads.cards letter ≡ None = sym counted ∙ none_reported (slice_index_or counts place None) not_there in
          record {
            cards = reads.cards ++ (letter, count) ∷ [];
            texts = take_more (parts_of word) n part here
                ∙ ap₂ (λ (xs ys : List (List ℕ)). xs ++ ys) reads.texts (ap (λ (x : List ℕ). x ∷ []) (sym is ∙ reports))
                ∙ sym (map-append cards_text reads.cards ((letter, count) ∷ []));
            are_cards = are_cards-push letter count (place, low, get_or-map (λ (x : ℕ). x) (codes "NPODL") place 0 letter low) few reads.cards reads.are_cards none;
            counts_are = ap (λ (l : List (Option ℕ)). slice_set l place (Some count)) reads.counts_are ∙ sym (counts-push reads.cards place count low none);
          }

  -- ---- behind the last part

  module _ (done : length (parts_of word) ≤ n) where
    all_read : parts_of word ≡ map cards_text reads.cards
    all_read = sym (take_all n (parts_of word) done) ∙ reads.texts

    -- the mix of these numbers has the word as its text
    pub is_text : (mix : Mix) → mix.new_orders ≡ unwrap_or (slice_index_or counts 0 None) 0 → mix.payments ≡ unwrap_or (slice_index_or counts 1 None) 0
        → mix.order_statuses ≡ unwrap_or (slice_index_or counts 2 None) 0 → mix.deliveries ≡ unwrap_or (slice_index_or counts 3 None) 0
        → mix.stock_levels ≡ unwrap_or (slice_index_or counts 4 None) 0 → IsMixText word mix
    is_text mix orders payments statuses deliveries levels =
        let at : (place : ℕ) → unwrap_or (slice_index_or counts place None) 0 ≡ unwrap_or (slice_index_or (map (reported_of reads.cards) (codes "NPODL")) place None) 0 =
        λ place. ap (λ (l : List (Option ℕ)). unwrap_or (slice_index_or l place None) 0) reads.counts_are in
        record {
          cards = reads.cards;
          text = all_read;
          are_cards = reads.are_cards;
          new_orders = orders ∙ at 0;
          payments = payments ∙ at 1;
          order_statuses = statuses ∙ at 2;
          deliveries = deliveries ∙ at 3;
          stock_levels = levels ∙ at 4;
        }

    -- of a mix, if one was made of these numbers
    pub is_text_of : (made : Option Mix) → IfSome made (λ mix. mix.new_orders ≡ unwrap_or (slice_index_or counts 0 None) 0) → IfSome made (λ mix. mix.payments ≡ unwrap_or (slice_index_or counts 1 None) 0)
        → IfSome made (λ mix. mix.order_statuses ≡ unwrap_or (slice_index_or counts 2 None) 0) → IfSome made (λ mix. mix.deliveries ≡ unwrap_or (slice_index_or counts 3 None) 0)
        → IfSome made (λ mix. mix.stock_levels ≡ unwrap_or (slice_index_or counts 4 None) 0) → IfSome made (IsMixText word)
    is_text_of None orders payments statuses deliveries levels = tt
    is_text_of (Some mix) orders payments statuses deliveries levels = is_text mix orders payments statuses deliveries levels

    -- a mix whose text the word is has these numbers
    same_numbers : (mix : Mix) → IsMixText word mix → (mix.new_orders ≡ unwrap_or (slice_index_or counts 0 None) 0) × (mix.payments ≡ unwrap_or (slice_index_or counts 1 None) 0)
        × (mix.order_statuses ≡ unwrap_or (slice_index_or counts 2 None) 0) × (mix.deliveries ≡ unwrap_or (slice_index_or counts 3 None) 0)
        × (mix.stock_levels ≡ unwrap_or (slice_index_or counts 4 None) 0)
    same_numbers mix text =
        let more = begins reads.cards text.cards [] reads.are_cards text.are_cards (sym text.text ∙ all_read ∙ sym (append-nil (map cards_text reads.cards))) in
        let same : text.cards ≡ reads.cards = more.1 ∙ ap (λ (l : List (ℕ × ℕ)). reads.cards ++ l) (nothing more.0 more.2) ∙ append-nil reads.cards in
        let of : (letter : ℕ) → reported_of text.cards letter ≡ reported_of reads.cards letter = λ letter. ap (λ (l : List (ℕ × ℕ)). reported_of l letter) same in
        let at : (place : ℕ) → slice_index_or (map (reported_of reads.cards) (codes "NPODL")) place None ≡ slice_index_or counts place None =
        λ place. ap (λ (l : List (Option ℕ)). slice_index_or l place None) (sym reads.counts_are) in (
          text.new_orders ∙ ap (λ (o : Option ℕ). unwrap_or o 0) (of 78 ∙ at 0),
          text.payments ∙ ap (λ (o : Option ℕ). unwrap_or o 0) (of 80 ∙ at 1),
          text.order_statuses ∙ ap (λ (o : Option ℕ). unwrap_or o 0) (of 79 ∙ at 2),
          text.deliveries ∙ ap (λ (o : Option ℕ). unwrap_or o 0) (of 68 ∙ at 3),
          text.stock_levels ∙ ap (λ (o : Option ℕ). unwrap_or o 0) (of 76 ∙ at 4),
        )

    -- so it is no mix's text where these are no mix
    pub fails_by_numbers : (IsMix (unwrap_or (slice_index_or counts 0 None) 0) (unwrap_or (slice_index_or counts 1 None) 0) (unwrap_or (slice_index_or counts 2 None) 0)
        (unwrap_or (slice_index_or counts 3 None) 0) (unwrap_or (slice_index_or counts 4 None) 0) → ⊥) → (mix : Mix) → IsMixText word mix → ⊥
    fails_by_numbers none mix text =
        let same = same_numbers mix text in
        let limits = mix.limits in
        none (omega (arith, same.0), omega (arith, same.1), omega (arith, same.2), omega (arith, same.3), omega (arith, same.4), omega (arith, same.0, same.1, same.2, same.3, same.4))
