-- The records of requests are read.
use Rattle.std.proofs.Common.{◌≡◌, ◌+◌, ◌-◌, ℕ, List, [], ◌∷◌, ◌++◌, length, flat_map, Bool, true, false, Some, IsUtf8, codes, refl, sym, ap, ◌∙◌, arith}
use Rattle.std.specs.Fmt.{decimal}
use Rattle.std.specs.Str.{bytes_eq}
use Rattle.std.proofs.lemmas.List.{append-nil, length-append}
use Rattle.files.specs.Columns.{Column, Moment, take_columns}
use Rattle.rows.proofs.Ascii.{utf8_words}
use Rattle.requests.specs.declared.request.Request.{Request}
use Rattle.requests.specs.declared.request.Request.TheVariants.{NewOrder, Payment, OrderStatus, Delivery, StockLevel}
use Rattle.requests.specs.declared.new_order.OrderedLine.{OrderedLine}
use Rattle.terminals.specs.ChoiceText.{choice_text}
use Rattle.terminals.specs.NewOrder.{ordered_line_fields}
use Rattle.terminals.specs.ReadLaws.{CanBeRead}
use Rattle.terminals.specs.RecordLaws.{IsOrderedLine}
use Rattle.terminals.specs.RequestColumns.{after_known, after_request, delivery_columns, line_columns, lines_in, number, order_status_columns, payment_columns, repeated, request_columns, stock_level_columns}
use Rattle.terminals.specs.RequestFields.{IsRequest}
use Rattle.terminals.proofs.ColumnsReadBack.{AreRead, and_read, append_read, choice_is_read, clean, each_is_read, moment_is_read, none_read, number_read}
use Rattle.terminals.proofs.ColumnsTaken.{lines_long}
use Rattle.terminals.proofs.OrderedLines.{lines-count}

-- a request's record, by its letter and the columns behind it, whatever fields come behind these
pub record IsReadRequest (fields : List (List ℕ)) : Type 0 where
  pub letter : List ℕ
  pub said : List (List ℕ)
  pub are : fields ≡ letter ∷ said
  pub utf8 : IsUtf8 letter
  pub apart : bytes_eq letter (codes "END") ≡ false
  pub columns : List Column
  pub known : (rest : List (List ℕ)) → request_columns (length said + 1) letter (length (said ++ rest)) ≡ Some columns
  pub long : length columns ≡ length said
  pub read : AreRead columns said

line_is_read : (line : OrderedLine) → IsOrderedLine line → AreRead line_columns (ordered_line_fields line)
line_is_read line is = and_read (number_read line.i_id is.0) (and_read (number_read line.supply_w_id is.1) (and_read (number_read line.quantity is.2) none_read))

pub request_is_read : (r : Request) → CanBeRead r → (fields : List (List ℕ)) → IsRequest r fields → IsReadRequest fields
request_is_read (NewOrder n) can fields is =
    let lines = flat_map ordered_line_fields n.lines in
    let four : List Column = number ∷ number ∷ number ∷ Moment ∷ [] in
    let head : List (List ℕ) = decimal n.home.w_id ∷ decimal n.home.d_id ∷ decimal n.c_id ∷ is.0 ∷ [] in
    let said : List (List ℕ) = head ++ lines in
    let count = lines-count n.lines in
    let few = can.1.1 in
    let head_read : AreRead four head =
    and_read (number_read n.home.w_id can.0.0.0) (and_read (number_read n.home.d_id can.0.0.1) (and_read (number_read n.c_id can.0.1) (and_read (moment_is_read is.0 n.moment is.1 can.1.0) none_read))) in
    record {
      letter = codes "N";
      said = said;
      are = is.2;
      utf8 = utf8_words (codes "N") refl;
      apart = refl;
      columns = four ++ repeated (length n.lines) line_columns;
      known = λ rest.
          let more = length-append said rest in
          let many : lines_in (length said + 1) (length (said ++ rest) - 4) ≡ length n.lines = omega (arith, count, few, more) in
          ap (λ times. Some (four ++ repeated times line_columns)) many;
      long = let long = lines_long (length n.lines) in omega (arith, count, long);
      read = append_read head_read (each_is_read line_columns ordered_line_fields IsOrderedLine line_is_read n.lines can.0.3);
    }
request_is_read (Payment p) can fields is =
    record {
      letter = codes "P";
      said = decimal p.home.w_id ∷ decimal p.home.d_id ∷ decimal p.customer_home.w_id ∷ decimal p.customer_home.d_id ∷ choice_text p.customer ∷ decimal p.amount ∷ is.0 ∷ [];
      are = is.2;
      utf8 = utf8_words (codes "P") refl;
      apart = refl;
      columns = payment_columns;
      known = λ rest. refl;
      long = refl;
      read = and_read (number_read p.home.w_id can.0.0.0) (and_read (number_read p.home.d_id can.0.0.1)
          (and_read (number_read p.customer_home.w_id can.0.1.0) (and_read (number_read p.customer_home.d_id can.0.1.1)
          (and_read (choice_is_read p.customer can.0.2 can.1.0) (and_read (number_read p.amount can.0.3) (and_read (moment_is_read is.0 p.moment is.1 can.1.1) none_read))))));
    }
request_is_read (OrderStatus o) can fields is =
    record {
      letter = codes "O";
      said = decimal o.home.w_id ∷ decimal o.home.d_id ∷ choice_text o.customer ∷ [];
      are = is;
      utf8 = utf8_words (codes "O") refl;
      apart = refl;
      columns = order_status_columns;
      known = λ rest. refl;
      long = refl;
      read = and_read (number_read o.home.w_id can.0.0.0) (and_read (number_read o.home.d_id can.0.0.1) (and_read (choice_is_read o.customer can.0.1 can.1) none_read));
    }
request_is_read (Delivery d) can fields is =
    record {
      letter = codes "D";
      said = decimal d.home.w_id ∷ decimal d.home.d_id ∷ decimal d.carrier_id ∷ is.0 ∷ [];
      are = is.2;
      utf8 = utf8_words (codes "D") refl;
      apart = refl;
      columns = delivery_columns;
      known = λ rest. refl;
      long = refl;
      read = and_read (number_read d.home.w_id can.0.0.0) (and_read (number_read d.home.d_id can.0.0.1) (and_read (number_read d.carrier_id can.0.1) (and_read (moment_is_read is.0 d.moment is.1 can.1) none_read)));
    }
request_is_read (StockLevel s) can fields is =
    record {
      letter = codes "L";
      said = decimal s.home.w_id ∷ decimal s.home.d_id ∷ decimal s.threshold ∷ [];
      are = is;
      utf8 = utf8_words (codes "L") refl;
      apart = refl;
      columns = stock_level_columns;
      known = λ rest. refl;
      long = refl;
      read = and_read (number_read s.home.w_id can.0.0.0) (and_read (number_read s.home.d_id can.0.0.1) (and_read (number_read s.threshold can.0.1) none_read));
    }

-- whether it is a Delivery
abbrev pub is_delivery : Request → Bool
is_delivery (NewOrder n) = false
is_delivery (Payment p) = false
is_delivery (OrderStatus o) = false
is_delivery (Delivery d) = true
is_delivery (StockLevel s) = false

-- no other letter is that of a Delivery
pub letter_is_read : (r : Request) (can : CanBeRead r) (fields : List (List ℕ)) (is : IsRequest r fields) → bytes_eq (request_is_read r can fields is).letter (codes "D") ≡ is_delivery r
unfolding request_is_read
letter_is_read (NewOrder n) can fields is = refl
letter_is_read (Payment p) can fields is = refl
letter_is_read (OrderStatus o) can fields is = refl
letter_is_read (Delivery d) can fields is = refl
letter_is_read (StockLevel s) can fields is = refl

-- a request with nothing behind it
pub alone_is_read : {fields : List (List ℕ)} (r : IsReadRequest fields) → after_request (length r.said + 1) r.letter (clean r.said) ≡ clean []
alone_is_read r =
    let none : length (r.said ++ []) ≡ length r.said = ap length (append-nil r.said) in
    ap (λ n. after_known (request_columns (length r.said + 1) r.letter n) (clean r.said)) (sym none)
    ∙ ap (λ columns. after_known columns (clean r.said)) (r.known [])
    ∙ ap (λ l. take_columns r.columns (clean l)) (sym (append-nil r.said)) ∙ r.read.are []
