use Rattle.std.proofs.Common.{◌∷◌, [], sym, ◌∙◌}
use Rattle.std.proofs.lemmas.Result.{on_ok_weaker, on_err_weaker}
use Rattle.schema.proofs.KeyOrders.{orders_total}
use Rattle.schema.proofs.OrderedParts.{whole_part}
use Rattle.files.proofs.Sent.{on_any_err}
use Rattle.dataset.specs.declared.format.Format.TheVariants.{Two}
use Rattle.dataset.specs.Records.{header_fields, row_records, new_order_fields}
use Rattle.dataset.specs.Writing.{count_fields, records_with}
use Rattle.dataset.proofs.Written.{midway-then, puts-last, puts-one, stops-between, stops-last, stops-midway, stops-none, stops-one}
use Rattle.dataset.proofs.Tables.{items_of, warehouses_of, districts_of, stocks_of, customers_of, histories_of, few, item_count, warehouse_count, district_count, stock_count, customer_count, history_count, end-counts}
use Rattle.dataset.proofs.TablesPut.{PutUpTo, has_counts, midway-start, stops-header}
use Rattle.dataset.proofs.writer.put_tables.Given as given
use Rattle.dataset.proofs.writer.put_tables.Goals.{In_ok-write, In_ok-write_dense-5, In_ok-write_ordered}
use Rattle.dataset.proofs.writer.put_tables.Goals as goal

pub write_dense-requires : goal.write_dense-requires
write_dense-requires g c = record { count = few (item_count c.scale-scale.result c.rows-rows.result.now (has_counts c.scale-scale.ensures.value c.rows-rows.ensures.same c.rows-rows.ensures.fits)) c.deref.ensures.value }

pub write_dense-requires-2 : goal.write_dense-requires-2
write_dense-requires-2 g c = record { count = few (warehouse_count c.scale-scale.result c.rows-rows.result.now (has_counts c.scale-scale.ensures.value c.rows-rows.ensures.same c.rows-rows.ensures.fits)) c.deref-2.ensures.value }

pub write_dense-requires-3 : goal.write_dense-requires-3
write_dense-requires-3 g c = record { count = few (district_count c.scale-scale.result c.rows-rows.result.now (has_counts c.scale-scale.ensures.value c.rows-rows.ensures.same c.rows-rows.ensures.fits)) c.deref-3.ensures.value }

pub write_dense-requires-4 : goal.write_dense-requires-4
write_dense-requires-4 g c = record { count = few (stock_count c.scale-scale.result c.rows-rows.result.now (has_counts c.scale-scale.ensures.value c.rows-rows.ensures.same c.rows-rows.ensures.fits)) c.deref-4.ensures.value }

pub write_dense-requires-5 : goal.write_dense-requires-5
write_dense-requires-5 g c = record { count = few (customer_count c.scale-scale.result c.rows-rows.result.now (has_counts c.scale-scale.ensures.value c.rows-rows.ensures.same c.rows-rows.ensures.fits)) c.deref-5.ensures.value }

pub write-requires-2 : goal.write-requires-2
write-requires-2 g c = record { count = few (history_count c.scale-scale.result c.rows-rows.result.now (has_counts c.scale-scale.ensures.value c.rows-rows.ensures.same c.rows-rows.ensures.fits)) c.deref-6.ensures.value }

-- the header was put
start : (g : given.Over) (c : In_ok-write g) → PutUpTo 0 c.args.tables.now c.scale-scale.result c.rows-rows.result.now (g.W.Write.contents c.args.sink.now) (g.W.Write.contents c.write.new.sink) c.args.writer.now.text c.write.new.self.text
start g c =
    let contents = g.W.Write.contents in
    midway-start c.scale-scale.ensures.value c.rows-rows.ensures.same c.rows-rows.ensures.fits
    (puts-one (contents c.args.sink.now) (contents c.write.new.sink) c.args.writer.now.text (header_fields Two c.scale-scale.result) c.new-out.result c.put.new.out c.new-out.ensures c.in_ok-put.ensures c.write.new.self.text c.in_ok-write.ensures.sent)

-- and five tables
dense : (g : given.Over) (c : In_ok-write_dense-5 g) → PutUpTo 0 c.args.tables.now c.scale-scale.result c.rows-rows.result.now (g.W.Write.contents c.args.sink.now) (g.W.Write.contents c.write.new.sink) c.args.writer.now.text c.write.new.self.text
    → PutUpTo 5 c.args.tables.now c.scale-scale.result c.rows-rows.result.now (g.W.Write.contents c.args.sink.now) (g.W.Write.contents c.write_dense-5.new.sink) c.args.writer.now.text c.write_dense-5.new.writer.text
dense g c h =
    let items = midway-then (items_of c.scale-scale.result) c.deref.ensures.value h c.in_ok-write_dense.ensures.written in
    let warehouses = midway-then (warehouses_of c.scale-scale.result) c.deref-2.ensures.value items c.in_ok-write_dense-2.ensures.written in
    let districts = midway-then (districts_of c.scale-scale.result) c.deref-3.ensures.value warehouses c.in_ok-write_dense-3.ensures.written in
    let stocks = midway-then (stocks_of c.scale-scale.result) c.deref-4.ensures.value districts c.in_ok-write_dense-4.ensures.written in
    midway-then (customers_of c.scale-scale.result) c.deref-5.ensures.value stocks c.in_ok-write_dense-5.ensures.written

-- and all tables
every : (g : given.Over) (c : In_ok-write_ordered g) → PutUpTo 5 c.args.tables.now c.scale-scale.result c.rows-rows.result.now (g.W.Write.contents c.args.sink.now) (g.W.Write.contents c.write_dense-5.new.sink) c.args.writer.now.text c.write_dense-5.new.writer.text
    → PutUpTo 9 c.args.tables.now c.scale-scale.result c.rows-rows.result.now (g.W.Write.contents c.args.sink.now) (g.W.Write.contents c.write_ordered.new.sink) c.args.writer.now.text c.write_ordered.new.writer.text
every g c h =
    let histories = midway-then (histories_of c.scale-scale.result) c.deref-6.ensures.value h c.in_ok-write-2.ensures.written in
    let orders = midway-then (records_with c.rows-rows.result.now.lines) (c.of_map-orders.ensures ∙ c.range.ensures.between tt ∙ whole_part orders_total c.rows-rows.result.now.orders.entries c.range.ensures.ordered) histories c.in_ok-write-3.ensures.written in
    let new_orders = midway-then (row_records new_order_fields) (c.of_map-new_orders.ensures ∙ c.range-2.ensures.between tt ∙ whole_part orders_total c.rows-rows.result.now.new_orders.entries c.range-2.ensures.ordered) orders (c.in_ok-write_ordered.ensures.written (λ s. s) (λ s r t h. h)) in
    record { first = new_orders.first; is = new_orders.is; puts = new_orders.puts }

pub returns-in_err-put-clause-begun : goal.returns-in_err-put-clause-begun
returns-in_err-put-clause-begun g c =
    on_any_err c.from_residual.result
    (stops-header c.scale-scale.ensures.value c.rows-rows.ensures.same c.rows-rows.ensures.fits
    (stops-none (g.W.Write.contents c.args.sink.now) c.args.writer.now.text (header_fields Two c.scale-scale.result ∷ [])))

pub returns-in_err-write-clause-begun : goal.returns-in_err-write-clause-begun
returns-in_err-write-clause-begun g c =
    let contents = g.W.Write.contents in
    on_any_err c.from_residual-in_err-write.result
    (stops-header c.scale-scale.ensures.value c.rows-rows.ensures.same c.rows-rows.ensures.fits
    (stops-one (contents c.args.sink.now) (contents c.write.new.sink) c.args.writer.now.text (header_fields Two c.scale-scale.result) c.new-out.result c.put.new.out c.new-out.ensures c.in_ok-put.ensures c.in_err-write.ensures.begun))

pub returns-in_err-write_dense-clause-begun : goal.returns-in_err-write_dense-clause-begun
returns-in_err-write_dense-clause-begun g c =
    let at = goal.at.returns-in_err-write_dense-clause-begun g c in
    on_any_err c.from_residual-in_err-write_dense.result (stops-midway (items_of c.scale-scale.result) c.deref.ensures.value (start g at.In_ok-write) c.in_err-write_dense.ensures.begun)

pub returns-in_err-write_dense-2-clause-begun : goal.returns-in_err-write_dense-2-clause-begun
returns-in_err-write_dense-2-clause-begun g c =
    let at = goal.at.returns-in_err-write_dense-2-clause-begun g c in
    let items = midway-then (items_of c.scale-scale.result) c.deref.ensures.value (start g at.In_ok-write) c.in_ok-write_dense.ensures.written in
    on_any_err c.from_residual-in_err-write_dense-2.result (stops-midway (warehouses_of c.scale-scale.result) c.deref-2.ensures.value items c.in_err-write_dense-2.ensures.begun)

pub returns-in_err-write_dense-3-clause-begun : goal.returns-in_err-write_dense-3-clause-begun
returns-in_err-write_dense-3-clause-begun g c =
    let at = goal.at.returns-in_err-write_dense-3-clause-begun g c in
    let items = midway-then (items_of c.scale-scale.result) c.deref.ensures.value (start g at.In_ok-write) c.in_ok-write_dense.ensures.written in
    let warehouses = midway-then (warehouses_of c.scale-scale.result) c.deref-2.ensures.value items c.in_ok-write_dense-2.ensures.written in
    on_any_err c.from_residual-in_err-write_dense-3.result (stops-midway (districts_of c.scale-scale.result) c.deref-3.ensures.value warehouses c.in_err-write_dense-3.ensures.begun)

pub returns-in_err-write_dense-4-clause-begun : goal.returns-in_err-write_dense-4-clause-begun
returns-in_err-write_dense-4-clause-begun g c =
    let at = goal.at.returns-in_err-write_dense-4-clause-begun g c in
    let items = midway-then (items_of c.scale-scale.result) c.deref.ensures.value (start g at.In_ok-write) c.in_ok-write_dense.ensures.written in
    let warehouses = midway-then (warehouses_of c.scale-scale.result) c.deref-2.ensures.value items c.in_ok-write_dense-2.ensures.written in
    let districts = midway-then (districts_of c.scale-scale.result) c.deref-3.ensures.value warehouses c.in_ok-write_dense-3.ensures.written in
    on_any_err c.from_residual-in_err-write_dense-4.result (stops-midway (stocks_of c.scale-scale.result) c.deref-4.ensures.value districts c.in_err-write_dense-4.ensures.begun)

pub returns-in_err-write_dense-5-clause-begun : goal.returns-in_err-write_dense-5-clause-begun
returns-in_err-write_dense-5-clause-begun g c =
    let at = goal.at.returns-in_err-write_dense-5-clause-begun g c in
    let items = midway-then (items_of c.scale-scale.result) c.deref.ensures.value (start g at.In_ok-write) c.in_ok-write_dense.ensures.written in
    let warehouses = midway-then (warehouses_of c.scale-scale.result) c.deref-2.ensures.value items c.in_ok-write_dense-2.ensures.written in
    let districts = midway-then (districts_of c.scale-scale.result) c.deref-3.ensures.value warehouses c.in_ok-write_dense-3.ensures.written in
    let stocks = midway-then (stocks_of c.scale-scale.result) c.deref-4.ensures.value districts c.in_ok-write_dense-4.ensures.written in
    on_any_err c.from_residual-in_err-write_dense-5.result (stops-midway (customers_of c.scale-scale.result) c.deref-5.ensures.value stocks c.in_err-write_dense-5.ensures.begun)

pub returns-in_err-write-2-clause-begun : goal.returns-in_err-write-2-clause-begun
returns-in_err-write-2-clause-begun g c =
    let at = goal.at.returns-in_err-write-2-clause-begun g c in
    on_any_err c.from_residual-in_err-write-2.result (stops-midway (histories_of c.scale-scale.result) c.deref-6.ensures.value (dense g at.In_ok-write_dense-5 (start g at.In_ok-write)) c.in_err-write-2.ensures.begun)

pub returns-in_err-write-3-clause-begun : goal.returns-in_err-write-3-clause-begun
returns-in_err-write-3-clause-begun g c =
    let at = goal.at.returns-in_err-write-3-clause-begun g c in
    let histories = midway-then (histories_of c.scale-scale.result) c.deref-6.ensures.value (dense g at.In_ok-write_dense-5 (start g at.In_ok-write)) c.in_ok-write-2.ensures.written in
    on_any_err c.from_residual-in_err-write-3.result (stops-midway (records_with c.rows-rows.result.now.lines) (c.of_map-orders.ensures ∙ c.range.ensures.between tt ∙ whole_part orders_total c.rows-rows.result.now.orders.entries c.range.ensures.ordered) histories c.in_err-write-3.ensures.begun)

pub returns-in_err-write_ordered-clause-begun : goal.returns-in_err-write_ordered-clause-begun
returns-in_err-write_ordered-clause-begun g c =
    let at = goal.at.returns-in_err-write_ordered-clause-begun g c in
    let histories = midway-then (histories_of c.scale-scale.result) c.deref-6.ensures.value (dense g at.In_ok-write_dense-5 (start g at.In_ok-write)) c.in_ok-write-2.ensures.written in
    let orders = midway-then (records_with c.rows-rows.result.now.lines) (c.of_map-orders.ensures ∙ c.range.ensures.between tt ∙ whole_part orders_total c.rows-rows.result.now.orders.entries c.range.ensures.ordered) histories c.in_ok-write-3.ensures.written in
    on_any_err c.from_residual-in_err-write_ordered.result (stops-midway (row_records new_order_fields) (c.of_map-new_orders.ensures ∙ c.range-2.ensures.between tt ∙ whole_part orders_total c.rows-rows.result.now.new_orders.entries c.range-2.ensures.ordered) orders (c.in_err-write_ordered.ensures.begun (λ s. s) (λ s r t h. h)))

pub returns-in_err-put-2-clause-begun : goal.returns-in_err-put-2-clause-begun
returns-in_err-put-2-clause-begun g c =
    let at = goal.at.returns-in_err-put-2-clause-begun g c in
    on_any_err c.from_residual-in_err-put-2.result (stops-between (every g at.In_ok-write_ordered (dense g at.In_ok-write_dense-5 (start g at.In_ok-write))))

pub returns-clause-written : goal.returns-clause-written
returns-clause-written g c =
    let at = goal.at.returns-clause-written g c in
    let contents = g.W.Write.contents in
    let ends = end-counts c.scale-scale.result c.rows-rows.result.now (has_counts c.scale-scale.ensures.value c.rows-rows.ensures.same c.rows-rows.ensures.fits) c.range.ensures.ordered c.range-2.ensures.ordered c.len.ensures.ordered in
    on_ok_weaker c.write-4.result
    (λ sent. puts-last (every g at.In_ok-write_ordered (dense g at.In_ok-write_dense-5 (start g at.In_ok-write))) ends
    (puts-one (contents c.write_ordered.new.sink) (contents c.write-4.new.sink) c.write_ordered.new.writer.text (count_fields c.rows-rows.result.now) c.clear.new.self c.put-2.new.out c.clear.ensures c.in_ok-put-2.ensures c.write-4.new.self.text sent))
    c.write-4.ensures.sent

pub returns-clause-begun : goal.returns-clause-begun
returns-clause-begun g c =
    let at = goal.at.returns-clause-begun g c in
    let contents = g.W.Write.contents in
    let ends = end-counts c.scale-scale.result c.rows-rows.result.now (has_counts c.scale-scale.ensures.value c.rows-rows.ensures.same c.rows-rows.ensures.fits) c.range.ensures.ordered c.range-2.ensures.ordered c.len.ensures.ordered in
    on_err_weaker c.write-4.result
    (λ begun. stops-last (every g at.In_ok-write_ordered (dense g at.In_ok-write_dense-5 (start g at.In_ok-write))) ends
    (stops-one (contents c.write_ordered.new.sink) (contents c.write-4.new.sink) c.write_ordered.new.writer.text (count_fields c.rows-rows.result.now) c.clear.new.self c.put-2.new.out c.clear.ensures c.in_ok-put-2.ensures begun))
    c.write-4.ensures.begun
