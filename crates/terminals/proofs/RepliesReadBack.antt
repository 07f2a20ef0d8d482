-- The records of replies are read.
use Rattle.std.proofs.Common.{◌≡◌, ◌-◌, ◌*◌, ◌/◌, ℕ, List, [], ◌∷◌, ◌++◌, length, flat_map, Option, Some, None, IfSome, IsUtf8, codes, refl, sym, ap, subst, ◌∙◌, arith}
use Rattle.std.specs.Fmt.{decimal, signed_decimal}
use Rattle.std.specs.List.{AllZip}
use Rattle.std.proofs.lemmas.List.{append-nil, length-append}
use Rattle.rows.specs.declared.stock_rules.BrandGeneric.{BrandGeneric}
use Rattle.rows.specs.declared.stock_rules.BrandGeneric.TheVariants.{Brand, Generic}
use Rattle.files.specs.Columns.{Cents, Column, Credit, MaybeWhole, Moment, Spelt, Whole, Words, take_columns}
use Rattle.files.specs.FieldRead.{FieldsView}
use Rattle.files.specs.Word.{credit_text}
use Rattle.rows.proofs.Ascii.{utf8_words}
use Rattle.files.proofs.Numerals.{some_digits}
use Rattle.requests.specs.declared.new_order.NewOrderLine.{NewOrderLine}
use Rattle.requests.specs.declared.order_status.StatusLine.{StatusLine}
use Rattle.requests.specs.declared.order_status.StatusOrder.{StatusOrder}
use Rattle.requests.specs.declared.reply.Fault.{Fault}
use Rattle.requests.specs.declared.reply.Fault.TheVariants.{NoCustomer, NoItem, Range}
use Rattle.requests.specs.declared.reply.Reply.{Reply}
use Rattle.requests.specs.declared.reply.Reply.TheVariants.{Done, RolledBack}
use Rattle.requests.specs.declared.reply.Shown.{Shown}
use Rattle.requests.specs.declared.reply.Shown.TheVariants as shown
use Rattle.terminals.specs.NewOrder.{brand_text, new_order_line_fields}
use Rattle.terminals.specs.Nullable.{nullable_text}
use Rattle.terminals.specs.OrderStatus.{IsStatusLine, IsStatusOrder}
use Rattle.terminals.specs.ReadLaws.{FitsFault, FitsReply, FitsShown, FitsShownLine, FitsStatusLine, FitsStatusOrder, IsBetween}
use Rattle.terminals.specs.ReplyColumns.{after_reply, after_why, brand_fault, fault_columns, null, null_fault, rate, shown_columns, shown_in, status_columns, status_order}
use Rattle.terminals.specs.ReplyFields.{IsReply, IsShown, fault_fields}
use Rattle.terminals.specs.RequestColumns.{after_known, number, repeated}
use Rattle.terminals.proofs.ColumnsReadBack.{AreRead, IsRead, and_read, append_read, clean, credit_is_read, each_is_read, each_of_two_is_read, maybe_moment_is_read, maybe_whole_is_read, moment_is_read, money_is_read, none_read, number_read, text_is_read, whole_is_read, word_fits, word_is_taken}
use Rattle.terminals.proofs.StatusLines.{there_is_one}

-- a reply's fields, by its letter
pub record IsReadReply (fields : List (List ℕ)) : Type 0 where
  pub letter : List ℕ
  pub said : List (List ℕ)
  pub are : fields ≡ letter ∷ said
  pub utf8 : IsUtf8 letter
  pub read : after_reply letter (clean said) ≡ clean []

-- fields of columns, with nothing behind them
alone : (columns : List Column) (fields : List (List ℕ)) → AreRead columns fields → take_columns columns (clean fields) ≡ clean []
alone columns fields read = ap (λ l. take_columns columns (clean l)) (sym (append-nil fields)) ∙ read.are []

rate_is_read : (n : ℕ) → IsBetween 0 9999 n → IsRead rate (decimal n)
rate_is_read n is = whole_is_read 0 9999 n (omega arith) is.0 is.1

-- ---- New-Orders

brand_is_read : (brand : BrandGeneric) → IsRead (Spelt brand_fault) (brand_text brand)
brand_is_read Brand = word_fits brand_fault (codes "B") (utf8_words (codes "B") refl) refl
brand_is_read Generic = word_fits brand_fault (codes "G") (utf8_words (codes "G") refl) refl

shown_line_is_read : (line : NewOrderLine) → FitsShownLine line → AreRead shown_columns (new_order_line_fields line)
shown_line_is_read line fits =
    and_read (number_read line.supply_w_id fits.0) (and_read (number_read line.i_id fits.1) (and_read (text_is_read 24 line.name fits.2)
    (and_read (whole_is_read 1 10 line.quantity (omega arith) fits.3.0 fits.3.1) (and_read (whole_is_read 10 100 line.stock_quantity (omega arith) fits.4.0 fits.4.1)
    (and_read (brand_is_read line.brand) (and_read (whole_is_read 1 99999 line.price (omega arith) fits.5.0 fits.5.1) (and_read (whole_is_read 0 999999 line.amount (omega arith) fits.6.0 fits.6.1) none_read)))))))

shown_long : (lines : List NewOrderLine) → length (flat_map new_order_line_fields lines) ≡ 8 * length lines
shown_long [] = refl
shown_long (line ∷ lines) =
    let rest = shown_long lines in
    let more = length-append (new_order_line_fields line) (flat_map new_order_line_fields lines) in
    omega (arith, rest, more)

-- ---- Order-Status

null_is_read : IsRead null []
null_is_read = word_fits null_fault [] (utf8_words [] refl) refl

status_line_is_read : (line : StatusLine) → FitsStatusLine line → (fields : List (List ℕ)) → IsStatusLine line fields → AreRead status_columns fields
status_line_is_read line fits fields is =
    subst (AreRead status_columns) (sym is.2)
    (and_read (number_read line.i_id fits.0) (and_read (number_read line.supply_w_id fits.1) (and_read (whole_is_read 1 10 line.quantity (omega arith) fits.2.0 fits.2.1)
    (and_read (whole_is_read 0 999999 line.amount (omega arith) fits.3.0 fits.3.1) (and_read (maybe_moment_is_read is.0 line.delivery_d is.1 fits.4) none_read)))))

status_long : (lines : List StatusLine) (each : List (List (List ℕ))) → AllZip IsStatusLine lines each → length (flat_map (λ line. line) each) ≡ 5 * length lines
status_long [] [] are = refl
status_long [] (fields ∷ each) are = absurd are
status_long (line ∷ lines) [] are = absurd are
status_long (line ∷ lines) (fields ∷ each) are =
    let five : length fields ≡ 5 = ap length are.0.2 in
    let rest = status_long lines each are.1 in
    let more = length-append fields (flat_map (λ line. line) each) in
    omega (arith, five, rest, more)

status_order_is_read : (order : Option StatusOrder) → IfSome order FitsStatusOrder → (fields : List (List ℕ)) → IsStatusOrder order fields → AreRead (status_order fields) fields
status_order_is_read None fits fields is =
    subst (λ l. AreRead (status_order l) l) (sym is) (and_read null_is_read (and_read null_is_read (and_read null_is_read none_read)))
status_order_is_read (Some order) fits fields is =
    let lines = is.2 in
    let are = is.3 in
    let text : List ℕ = decimal order.o_id in
    let said : List (List ℕ) = text ∷ is.0 ∷ nullable_text order.carrier_id ∷ lines in
    let o_id = fits.0 in
    let some : (rest : List (List ℕ)) → said ≡ [] ∷ rest → ⊥ = λ rest e. let none : text ≡ [] = cc in some_digits order.o_id (omega (arith, o_id.1)) none in
    let long = status_long order.lines are.0 are.1 in
    let same : length lines ≡ length (flat_map (λ line. line) are.0) = ap length are.2 in
    let many : (length said - 3) / 5 ≡ length order.lines = omega (arith, long, same) in
    let lines_read : AreRead (repeated (length order.lines) status_columns) lines =
    subst (AreRead (repeated (length order.lines) status_columns)) (sym are.2) (each_of_two_is_read status_columns IsStatusLine FitsStatusLine status_line_is_read order.lines are.0 fits.3 are.1) in
    let read = and_read (whole_is_read 1 9999999 order.o_id (omega arith) o_id.0 o_id.1)
    (and_read (moment_is_read is.0 order.entry_d is.1 fits.1) (and_read (maybe_whole_is_read 1 10 order.carrier_id (omega arith) fits.2) lines_read)) in
    let columns : List Column = Whole 1 9999999 ∷ Moment ∷ MaybeWhole 1 10 ∷ [] in
    let all : status_order said ≡ columns ++ repeated (length order.lines) status_columns = there_is_one said some ∙ ap (λ times. columns ++ repeated times status_columns) many in
    subst (λ l. AreRead (status_order l) l) (sym is.4) (subst (λ c. AreRead c said) (sym all) read)

-- ---- what is shown

shown_is_read : (s : Shown) → FitsShown s → (fields : List (List ℕ)) → IsShown s fields → IsReadReply fields
shown_is_read (shown.NewOrder n) fits fields is =
    let lines = flat_map new_order_line_fields n.lines in
    let eight : List Column = Words 16 ∷ Credit ∷ rate ∷ rate ∷ rate ∷ Whole 1 9999999 ∷ Moment ∷ Cents ∷ [] in
    let head : List (List ℕ) = n.last ∷ credit_text n.credit ∷ decimal n.discount ∷ decimal n.warehouse_tax ∷ decimal n.district_tax ∷ decimal n.o_id ∷ is.0 ∷ signed_decimal n.total ∷ [] in
    let said : List (List ℕ) = head ++ lines in
    let long = shown_long n.lines in
    let few = fits.7 in
    let many : shown_in (length said - 8) ≡ length n.lines = omega (arith, long, few) in
    let head_read : AreRead eight head =
    and_read (text_is_read 16 n.last fits.0) (and_read (credit_is_read n.credit) (and_read (rate_is_read n.discount fits.1) (and_read (rate_is_read n.warehouse_tax fits.2) (and_read (rate_is_read n.district_tax fits.3)
    (and_read (whole_is_read 1 9999999 n.o_id (omega arith) fits.4.0 fits.4.1) (and_read (moment_is_read is.0 n.entry_d is.1 fits.5) (and_read (money_is_read n.total fits.6) none_read))))))) in
    let columns : List Column = eight ++ repeated (length n.lines) shown_columns in
    let all : AreRead columns said = append_read head_read (each_is_read shown_columns new_order_line_fields FitsShownLine shown_line_is_read n.lines fits.8) in
    record {
      letter = codes "N";
      said = said;
      are = is.2;
      utf8 = utf8_words (codes "N") refl;
      read = ap (λ times. take_columns (eight ++ repeated times shown_columns) (clean said)) many ∙ alone columns said all;
    }
shown_is_read (shown.Payment p) fits fields is =
    record {
      letter = codes "P";
      said = decimal p.c_id ∷ p.first ∷ p.middle ∷ p.last ∷ credit_text p.credit ∷ decimal p.discount ∷ signed_decimal p.balance ∷ p.data ∷ [];
      are = is;
      utf8 = utf8_words (codes "P") refl;
      read = (and_read (number_read p.c_id fits.0) (and_read (text_is_read 16 p.first fits.1) (and_read (text_is_read 2 p.middle fits.2) (and_read (text_is_read 16 p.last fits.3)
          (and_read (credit_is_read p.credit) (and_read (rate_is_read p.discount fits.4) (and_read (money_is_read p.balance fits.5) (and_read (text_is_read 200 p.data fits.6) none_read)))))))).are [];
    }
shown_is_read (shown.OrderStatus o) fits fields is =
    let order = is.0 in
    let said : List (List ℕ) = decimal o.c_id ∷ o.first ∷ o.middle ∷ o.last ∷ signed_decimal o.balance ∷ order in
    let all = and_read (number_read o.c_id fits.0) (and_read (text_is_read 16 o.first fits.1) (and_read (text_is_read 2 o.middle fits.2) (and_read (text_is_read 16 o.last fits.3)
    (and_read (money_is_read o.balance fits.4) (status_order_is_read o.order fits.5 order is.1))))) in
    record {
      letter = codes "O";
      said = said;
      are = is.2;
      utf8 = utf8_words (codes "O") refl;
      read = alone (number ∷ Words 16 ∷ Words 2 ∷ Words 16 ∷ Cents ∷ status_order order) said all;
    }
shown_is_read (shown.Delivery d) fits fields is =
    record {
      letter = codes "D";
      said = decimal d.d_id ∷ decimal d.carrier_id ∷ nullable_text d.order ∷ [];
      are = is;
      utf8 = utf8_words (codes "D") refl;
      read = (and_read (whole_is_read 1 10 d.d_id (omega arith) fits.0.0 fits.0.1) (and_read (whole_is_read 1 10 d.carrier_id (omega arith) fits.1.0 fits.1.1)
          (and_read (maybe_whole_is_read 1 9999999 d.order (omega arith) fits.2) none_read))).are [];
    }
shown_is_read (shown.StockLevel s) fits fields is =
    record {
      letter = codes "L";
      said = decimal s.count ∷ [];
      are = is;
      utf8 = utf8_words (codes "L") refl;
      read = (and_read (number_read s.count fits) none_read).are [];
    }

-- ---- what was rolled back

-- why, behind its letter
why_is_read : (f : Fault) → FitsFault f → after_why (clean (fault_fields f)) ≡ clean []
why_is_read NoCustomer fits = ap (λ (p : List ℕ × FieldsView). after_known (fault_columns p.0) p.1) (word_is_taken (codes "nocustomer") [] (utf8_words (codes "nocustomer") refl))
why_is_read (NoItem last credit o_id) fits =
    let rest : List (List ℕ) = last ∷ credit_text credit ∷ decimal o_id ∷ [] in
    ap (λ (p : List ℕ × FieldsView). after_known (fault_columns p.0) p.1) (word_is_taken (codes "noitem") rest (utf8_words (codes "noitem") refl))
    ∙ (and_read (text_is_read 16 last fits.0) (and_read (credit_is_read credit) (and_read (whole_is_read 1 10000000 o_id (omega arith) fits.1.0 fits.1.1) none_read))).are []
why_is_read Range fits = ap (λ (p : List ℕ × FieldsView). after_known (fault_columns p.0) p.1) (word_is_taken (codes "range") [] (utf8_words (codes "range") refl))

pub reply_is_read : (r : Reply) → FitsReply r → (fields : List (List ℕ)) → IsReply r fields → IsReadReply fields
reply_is_read (Done s) fits fields is = shown_is_read s fits fields is
reply_is_read (RolledBack fault) fits fields is =
    record { letter = codes "X"; said = fault_fields fault; are = is; utf8 = utf8_words (codes "X") refl; read = why_is_read fault fits }
