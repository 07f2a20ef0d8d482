use Rattle.std.proofs.Common.{◌≡◌, false, List, ℕ, codes, refl, sym, subst, IsUtf8}
use Rattle.std.specs.List.{list_all}
use Rattle.std.specs.Str.{bytes_eq}
use Rattle.std.specs.Cmp.Lexicographic.{bytes_decides}
use Rattle.rows.specs.Text.{is_printable_byte}
use Rattle.rows.proofs.Ascii.{utf8_words}
use Rattle.files.proofs.Unlike.{false_unless}
use Rattle.files.proofs.words.read_credit.Goals as goal

pub returns-in-Err : goal.returns-in-Err
returns-in-Err c =
    let no_text = (rw c.in-Err.is at c.from_utf8.ensures.cases).0 in
    let field : List ℕ = c.args.field.now in
    let good : bytes_eq field (codes "GC") ≡ false = false_unless (bytes_eq field (codes "GC")) (λ e. no_text (subst IsUtf8 (sym ((bytes_decides field (codes "GC")).0 e)) (utf8_words (codes "GC") refl))) in
    let bad : bytes_eq field (codes "BC") ≡ false = false_unless (bytes_eq field (codes "BC")) (λ e. no_text (subst IsUtf8 (sym ((bytes_decides field (codes "BC")).0 e)) (utf8_words (codes "BC") refl))) in
    let printable : list_all is_printable_byte field ≡ false = false_unless (list_all is_printable_byte field) (λ e. no_text (utf8_words field e)) in
    rw (good, bad, printable) refl
