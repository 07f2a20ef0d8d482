-- Last names (clause 4.3.2.3).
use Rattle.std.specs.Prelude.{ℕ, ◌/◌, ◌%◌, List, ◌++◌, ◌==◌, if◌then◌else◌, codes}

-- the syllable of a digit
abbrev pub syllable_of : ℕ → List ℕ
syllable_of digit =
    if digit == 0 then codes "BAR" else
    (if digit == 1 then codes "OUGHT" else
    (if digit == 2 then codes "ABLE" else
    (if digit == 3 then codes "PRI" else
    (if digit == 4 then codes "PRES" else
    (if digit == 5 then codes "ESE" else
    (if digit == 6 then codes "ANTI" else
    (if digit == 7 then codes "CALLY" else
    (if digit == 8 then codes "ATION" else codes "EING"))))))))

-- the syllables of the hundreds, the tens and the units digit
abbrev pub last_name_of : ℕ → List ℕ
last_name_of number = syllable_of (number / 100) ++ (syllable_of (number / 10 % 10) ++ syllable_of (number % 10))
