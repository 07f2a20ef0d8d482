-- The text that is left, as bytes come into memory and are taken.
use Rattle.std.proofs.Common.{◌≡◌, ◌<◌, ◌⊎◌, inl, inr, ℕ, List, [], ◌∷◌, ◌++◌, drop, length, Option, Some, None, true, false, cond, refl, ap, ◌∙◌, arith}
use Rattle.std.specs.Prelude.{option_map}
use Rattle.std.specs.Io.KnownBytes.{IsAtEnd, Keeps, prepend_known}
use Rattle.csv.specs.Machine.{step}
use Rattle.csv.specs.Reading.{default_config, strip_bom, is_bom}
use Rattle.csv.specs.declared.parser.Action.TheVariants as act
use Rattle.csv.specs.declared.parser.State.TheVariants as st
use Rattle.csv.proofs.ReadFacts.{Tracks, tracks-next}
use Rattle.files.specs.ByteOrder.{is_marked}
use Rattle.files.specs.Line.{IsFirst}
use Rattle.files.specs.declared.source.First.TheVariants as first

pub keeps-on : (a b c : Option (List ℕ)) → Keeps a b → Keeps b c → Keeps a c
keeps-on None b c p q = tt
keeps-on (Some xs) None c p q = absurd p
keeps-on (Some xs) (Some ys) None p q = absurd q
keeps-on (Some xs) (Some ys) (Some zs) p q = q ∙ p

-- a text without its byte order mark, of which three bytes are in memory, or all
pub strip_hand : (hand : List ℕ) (known : Option (List ℕ)) → (length hand < 3 → IsAtEnd known)
    → option_map strip_bom (prepend_known hand known) ≡ prepend_known (cond (is_marked hand) (drop 3 hand) hand) known
unfolding strip_bom
strip_hand hand None short = refl
strip_hand [] (Some rest) short = let none = short (omega arith) in rw none refl
strip_hand (a ∷ []) (Some rest) short = let none = short (omega arith) in rw none refl
strip_hand (a ∷ b ∷ []) (Some rest) short = let none = short (omega arith) in rw none refl
strip_hand (a ∷ b ∷ c ∷ hand) (Some rest) short =
    elim (is_bom a b c) as (λ t. Some (cond t (hand ++ rest) (a ∷ b ∷ c ∷ (hand ++ rest))) ≡ Some (cond t hand (a ∷ b ∷ c ∷ hand) ++ rest)) [ true ↦ refl | false ↦ refl ]

end_step : (byte : ℕ) → (byte ≡ 10) ⊎ (byte ≡ 13) → (st.StartRecord, act.Skip) ≡ step default_config st.StartRecord byte
end_step byte (inl feed) = rw feed refl
end_step byte (inr return) = rw return refl

-- the end of a line before a record is skipped
pub skipped : (hand : List ℕ) (before known : Option (List ℕ)) → IsFirst hand first.LineEnd
    → Tracks default_config st.StartRecord before st.StartRecord [] [] (prepend_known hand known)
    → Tracks default_config st.StartRecord before st.StartRecord [] [] (prepend_known (drop 1 hand) known)
skipped [] before known ends tracks = cc ends
skipped (byte ∷ hand) before known ends tracks =
    tracks-next default_config st.StartRecord st.StartRecord st.StartRecord act.Skip [] [] [] [] before known byte hand (end_step byte ends) refl refl refl tracks

keeps_stripped : (a b : Option (List ℕ)) → Keeps a b → Keeps (option_map strip_bom a) (option_map strip_bom b)
keeps_stripped None b h = tt
keeps_stripped (Some xs) None h = h
keeps_stripped (Some xs) (Some ys) h = ap strip_bom h

-- a text is begun where a byte order mark is taken, if it has one
pub began : (old known known2 : Option (List ℕ)) (hand left : List ℕ) → Keeps old (prepend_known hand known) → (length hand < 3 → IsAtEnd known)
    → left ≡ cond (is_marked hand) (drop 3 hand) hand → known2 ≡ known → Keeps (option_map strip_bom old) (prepend_known left known2)
began old known known2 hand left keeps short is_left same =
    rw (is_left, same, ← (strip_hand hand known short)) (keeps_stripped old (prepend_known hand known) keeps)
