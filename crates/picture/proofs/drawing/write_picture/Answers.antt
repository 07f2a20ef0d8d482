use Rattle.std.proofs.Common.{◌≡◌, ◌+◌, true, false, [], List, ◌++◌, length, subst, refl, rules}
use Rattle.std.proofs.lemmas.Result.{on_err_weaker, on_ok_weaker}
use Rattle.std.specs.Io.KnownBytes.{Appends}
use Rattle.files.specs.Sending.{Begins}
use Rattle.files.proofs.Sent.{begins_more}
use Rattle.picture.specs.declared.asides.Aside.{Aside}
use Rattle.picture.specs.declared.sheet.Ground.{Ground}
use Rattle.picture.specs.Asides.{aside_text}
use Rattle.picture.specs.Drawing.{picture_text, texts}
use Rattle.picture.specs.Lanes.{width, height, rows_end, sessions_from}
use Rattle.picture.specs.Marks.{mark_text, all_marks}
use Rattle.picture.specs.Rows.{rows_of}
use Rattle.picture.specs.Sheet.{ground_text, legend_text, sheet_text}
use Rattle.picture.proofs.Parts.{begun-drawn, fifth-begun, fourth-begun, nothing-drawn, picture-drawn, second-begun, six-appended, sixth-begun, third-begun}
use Rattle.picture.proofs.drawing.write_picture.Goals as goal

-- it fails before anything is drawn
pub returns-in_err-rows-clause-begun : goal.returns-in_err-rows-clause-begun
returns-in_err-rows-clause-begun g c =
    nothing-drawn _ (g.W.Write.contents c.args.sink.now) (sessions_from [] c.args.schedule.now) c.args.executors (rows_of c.args.log.now 1 c.args.schedule.now c.args.outputs.now)

pub returns-in_err-lanes-clause-begun : goal.returns-in_err-lanes-clause-begun
returns-in_err-lanes-clause-begun g c =
    nothing-drawn _ (g.W.Write.contents c.args.sink.now) (sessions_from [] c.args.schedule.now) c.args.executors (rows_of c.args.log.now 1 c.args.schedule.now c.args.outputs.now)

pub returns-in_err-heads-clause-begun : goal.returns-in_err-heads-clause-begun
returns-in_err-heads-clause-begun g c =
    nothing-drawn _ (g.W.Write.contents c.args.sink.now) (sessions_from [] c.args.schedule.now) c.args.executors (rows_of c.args.log.now 1 c.args.schedule.now c.args.outputs.now)

pub returns-in_err-slices-clause-begun : goal.returns-in_err-slices-clause-begun
returns-in_err-slices-clause-begun g c =
    nothing-drawn _ (g.W.Write.contents c.args.sink.now) (sessions_from [] c.args.schedule.now) c.args.executors (rows_of c.args.log.now 1 c.args.schedule.now c.args.outputs.now)

pub returns-in_err-asides-in-Some-clause-begun : goal.returns-in_err-asides-in-Some-clause-begun
returns-in_err-asides-in-Some-clause-begun g c =
    nothing-drawn _ (g.W.Write.contents c.args.sink.now) (sessions_from [] c.args.schedule.now) c.args.executors (rows_of c.args.log.now 1 c.args.schedule.now c.args.outputs.now)

pub returns-in_err-marks-clause-begun : goal.returns-in_err-marks-clause-begun
returns-in_err-marks-clause-begun g c =
    nothing-drawn _ (g.W.Write.contents c.args.sink.now) (sessions_from [] c.args.schedule.now) c.args.executors (rows_of c.args.log.now 1 c.args.schedule.now c.args.outputs.now)

-- a part is not drawn
pub returns-in_err-draw-clause-begun : goal.returns-in_err-draw-clause-begun
returns-in_err-draw-clause-begun g c =
    let s0 = g.W.Write.contents c.args.sink.now in
    let s1 = g.W.Write.contents c.draw.new.sink in
    let sessions = sessions_from [] c.args.schedule.now in
    let rows = rows_of c.args.log.now 1 c.args.schedule.now c.args.outputs.now in
    let across = c.width-width.result in
    let down = c.height-height.result in
    let bottom = c.rows_end-bottom.result in
    let asides : List Aside = [] in
    let marks = all_marks sessions c.args.executors 0 rows in
    let is_across : c.width-width.result ≡ width (length sessions) c.args.executors = search rules in
    let is_down : c.height-height.result ≡ height (length rows) = search rules in
    let is_bottom : c.rows_end-bottom.result ≡ rows_end (length rows) = search rules in
    begun-drawn _ s0 s1 sessions c.args.executors rows asides across down bottom marks is_across is_down is_bottom refl
    (begins_more s0 s1 (sheet_text across down) (ground_text false 0 across down ++ (ground_text true 74 across bottom ++ (texts aside_text asides ++ (texts mark_text marks ++ legend_text (bottom + 24))))) c.in_err-draw.ensures.begun)

pub returns-in_err-draw-2-clause-begun : goal.returns-in_err-draw-2-clause-begun
returns-in_err-draw-2-clause-begun g c =
    let s0 = g.W.Write.contents c.args.sink.now in
    let s1 = g.W.Write.contents c.draw.new.sink in
    let s2 = g.W.Write.contents c.draw-2.new.sink in
    let sessions = sessions_from [] c.args.schedule.now in
    let rows = rows_of c.args.log.now 1 c.args.schedule.now c.args.outputs.now in
    let across = c.width-width.result in
    let down = c.height-height.result in
    let bottom = c.rows_end-bottom.result in
    let asides : List Aside = [] in
    let marks = all_marks sessions c.args.executors 0 rows in
    let is_across : c.width-width.result ≡ width (length sessions) c.args.executors = search rules in
    let is_down : c.height-height.result ≡ height (length rows) = search rules in
    let is_bottom : c.rows_end-bottom.result ≡ rows_end (length rows) = search rules in
    let Plain : Ground → Type 0 = λ one. Begins s1 s2 (ground_text one.striped one.top one.width one.bottom) in
    begun-drawn _ s0 s2 sessions c.args.executors rows asides across down bottom marks is_across is_down is_bottom refl
    (second-begun s0 s1 s2
    (sheet_text across down) (ground_text false 0 across down)
    (ground_text true 74 across bottom ++ (texts aside_text asides ++ (texts mark_text marks ++ legend_text (bottom + 24))))
    c.in_ok-draw.ensures.written (subst Plain c.ground.ensures c.in_err-draw-2.ensures.begun))

pub returns-in_err-draw-3-clause-begun : goal.returns-in_err-draw-3-clause-begun
returns-in_err-draw-3-clause-begun g c =
    let s0 = g.W.Write.contents c.args.sink.now in
    let s1 = g.W.Write.contents c.draw.new.sink in
    let s2 = g.W.Write.contents c.draw-2.new.sink in
    let s3 = g.W.Write.contents c.draw-3.new.sink in
    let sessions = sessions_from [] c.args.schedule.now in
    let rows = rows_of c.args.log.now 1 c.args.schedule.now c.args.outputs.now in
    let across = c.width-width.result in
    let down = c.height-height.result in
    let bottom = c.rows_end-bottom.result in
    let asides : List Aside = [] in
    let marks = all_marks sessions c.args.executors 0 rows in
    let is_across : c.width-width.result ≡ width (length sessions) c.args.executors = search rules in
    let is_down : c.height-height.result ≡ height (length rows) = search rules in
    let is_bottom : c.rows_end-bottom.result ≡ rows_end (length rows) = search rules in
    let Plain : Ground → Type 0 = λ one. Appends s1 s2 (ground_text one.striped one.top one.width one.bottom) in
    let Striped : Ground → Type 0 = λ one. Begins s2 s3 (ground_text one.striped one.top one.width one.bottom) in
    begun-drawn _ s0 s3 sessions c.args.executors rows asides across down bottom marks is_across is_down is_bottom refl
    (third-begun s0 s1 s2 s3
    (sheet_text across down) (ground_text false 0 across down) (ground_text true 74 across bottom)
    (texts aside_text asides ++ (texts mark_text marks ++ legend_text (bottom + 24)))
    c.in_ok-draw.ensures.written (subst Plain c.ground.ensures c.in_ok-draw-2.ensures.written) (subst Striped c.ground-2.ensures c.in_err-draw-3.ensures.begun))

pub returns-in_err-draw_all-clause-begun : goal.returns-in_err-draw_all-clause-begun
returns-in_err-draw_all-clause-begun g c =
    let s0 = g.W.Write.contents c.args.sink.now in
    let s1 = g.W.Write.contents c.draw.new.sink in
    let s2 = g.W.Write.contents c.draw-2.new.sink in
    let s3 = g.W.Write.contents c.draw-3.new.sink in
    let s4 = g.W.Write.contents c.draw_all.new.sink in
    let sessions = sessions_from [] c.args.schedule.now in
    let rows = rows_of c.args.log.now 1 c.args.schedule.now c.args.outputs.now in
    let across = c.width-width.result in
    let down = c.height-height.result in
    let bottom = c.rows_end-bottom.result in
    let asides = c.as_slice-3.result.now in
    let marks = all_marks sessions c.args.executors 0 rows in
    let is_across : c.width-width.result ≡ width (length sessions) c.args.executors = search rules in
    let is_down : c.height-height.result ≡ height (length rows) = search rules in
    let is_bottom : c.rows_end-bottom.result ≡ rows_end (length rows) = search rules in
    let Plain : Ground → Type 0 = λ one. Appends s1 s2 (ground_text one.striped one.top one.width one.bottom) in
    let Striped : Ground → Type 0 = λ one. Appends s2 s3 (ground_text one.striped one.top one.width one.bottom) in
    begun-drawn _ s0 s4 sessions c.args.executors rows asides across down bottom marks is_across is_down is_bottom refl
    (fourth-begun s0 s1 s2 s3 s4
    (sheet_text across down) (ground_text false 0 across down) (ground_text true 74 across bottom) (texts aside_text asides)
    (texts mark_text marks ++ legend_text (bottom + 24))
    c.in_ok-draw.ensures.written (subst Plain c.ground.ensures c.in_ok-draw-2.ensures.written) (subst Striped c.ground-2.ensures c.in_ok-draw-3.ensures.written) (c.in_err-draw_all.ensures.begun aside_text (λ one. refl)))

pub returns-in_err-draw_all-2-clause-begun : goal.returns-in_err-draw_all-2-clause-begun
returns-in_err-draw_all-2-clause-begun g c =
    let s0 = g.W.Write.contents c.args.sink.now in
    let s1 = g.W.Write.contents c.draw.new.sink in
    let s2 = g.W.Write.contents c.draw-2.new.sink in
    let s3 = g.W.Write.contents c.draw-3.new.sink in
    let s4 = g.W.Write.contents c.draw_all.new.sink in
    let s5 = g.W.Write.contents c.draw_all-2.new.sink in
    let sessions = sessions_from [] c.args.schedule.now in
    let rows = rows_of c.args.log.now 1 c.args.schedule.now c.args.outputs.now in
    let across = c.width-width.result in
    let down = c.height-height.result in
    let bottom = c.rows_end-bottom.result in
    let asides = c.as_slice-3.result.now in
    let marks = c.as_slice-4.result.now in
    let is_across : c.width-width.result ≡ width (length sessions) c.args.executors = search rules in
    let is_down : c.height-height.result ≡ height (length rows) = search rules in
    let is_bottom : c.rows_end-bottom.result ≡ rows_end (length rows) = search rules in
    let are_marks : c.as_slice-4.result.now ≡ all_marks sessions c.args.executors 0 rows = search rules in
    let Plain : Ground → Type 0 = λ one. Appends s1 s2 (ground_text one.striped one.top one.width one.bottom) in
    let Striped : Ground → Type 0 = λ one. Appends s2 s3 (ground_text one.striped one.top one.width one.bottom) in
    begun-drawn _ s0 s5 sessions c.args.executors rows asides across down bottom marks is_across is_down is_bottom are_marks
    (fifth-begun s0 s1 s2 s3 s4 s5
    (sheet_text across down) (ground_text false 0 across down) (ground_text true 74 across bottom) (texts aside_text asides) (texts mark_text marks)
    (legend_text (bottom + 24))
    c.in_ok-draw.ensures.written (subst Plain c.ground.ensures c.in_ok-draw-2.ensures.written) (subst Striped c.ground-2.ensures c.in_ok-draw-3.ensures.written) (c.in_ok-draw_all.ensures.written aside_text (λ one. refl)) (c.in_err-draw_all-2.ensures.begun mark_text (λ one. refl)))

-- it reaches the legend
pub returns-clause-written : goal.returns-clause-written
returns-clause-written g c =
    let s0 = g.W.Write.contents c.args.sink.now in
    let s1 = g.W.Write.contents c.draw.new.sink in
    let s2 = g.W.Write.contents c.draw-2.new.sink in
    let s3 = g.W.Write.contents c.draw-3.new.sink in
    let s4 = g.W.Write.contents c.draw_all.new.sink in
    let s5 = g.W.Write.contents c.draw_all-2.new.sink in
    let s6 = g.W.Write.contents c.draw-4.new.sink in
    let sessions = sessions_from [] c.args.schedule.now in
    let rows = rows_of c.args.log.now 1 c.args.schedule.now c.args.outputs.now in
    let across = c.width-width.result in
    let down = c.height-height.result in
    let bottom = c.rows_end-bottom.result in
    let asides = c.as_slice-3.result.now in
    let marks = c.as_slice-4.result.now in
    let is_across : c.width-width.result ≡ width (length sessions) c.args.executors = search rules in
    let is_down : c.height-height.result ≡ height (length rows) = search rules in
    let is_bottom : c.rows_end-bottom.result ≡ rows_end (length rows) = search rules in
    let are_marks : c.as_slice-4.result.now ≡ all_marks sessions c.args.executors 0 rows = search rules in
    let Plain : Ground → Type 0 = λ one. Appends s1 s2 (ground_text one.striped one.top one.width one.bottom) in
    let Striped : Ground → Type 0 = λ one. Appends s2 s3 (ground_text one.striped one.top one.width one.bottom) in
    let all : Appends s5 s6 (legend_text (bottom + 24)) → (asides : List Aside) × Appends s0 s6 (picture_text sessions c.args.executors rows asides) = λ last. (
      asides,
      picture-drawn (Appends s0 s6) sessions c.args.executors rows asides across down bottom marks is_across is_down is_bottom are_marks
          (six-appended s0 s1 s2 s3 s4 s5 s6
          (sheet_text across down) (ground_text false 0 across down) (ground_text true 74 across bottom) (texts aside_text asides) (texts mark_text marks) (legend_text (bottom + 24))
          c.in_ok-draw.ensures.written (subst Plain c.ground.ensures c.in_ok-draw-2.ensures.written) (subst Striped c.ground-2.ensures c.in_ok-draw-3.ensures.written) (c.in_ok-draw_all.ensures.written aside_text (λ one. refl)) (c.in_ok-draw_all-2.ensures.written mark_text (λ one. refl)) last),
    ) in
    on_ok_weaker c.draw-4.result all c.draw-4.ensures.written

pub returns-clause-begun : goal.returns-clause-begun
returns-clause-begun g c =
    let s0 = g.W.Write.contents c.args.sink.now in
    let s1 = g.W.Write.contents c.draw.new.sink in
    let s2 = g.W.Write.contents c.draw-2.new.sink in
    let s3 = g.W.Write.contents c.draw-3.new.sink in
    let s4 = g.W.Write.contents c.draw_all.new.sink in
    let s5 = g.W.Write.contents c.draw_all-2.new.sink in
    let s6 = g.W.Write.contents c.draw-4.new.sink in
    let sessions = sessions_from [] c.args.schedule.now in
    let rows = rows_of c.args.log.now 1 c.args.schedule.now c.args.outputs.now in
    let across = c.width-width.result in
    let down = c.height-height.result in
    let bottom = c.rows_end-bottom.result in
    let asides = c.as_slice-3.result.now in
    let marks = c.as_slice-4.result.now in
    let is_across : c.width-width.result ≡ width (length sessions) c.args.executors = search rules in
    let is_down : c.height-height.result ≡ height (length rows) = search rules in
    let is_bottom : c.rows_end-bottom.result ≡ rows_end (length rows) = search rules in
    let are_marks : c.as_slice-4.result.now ≡ all_marks sessions c.args.executors 0 rows = search rules in
    let Plain : Ground → Type 0 = λ one. Appends s1 s2 (ground_text one.striped one.top one.width one.bottom) in
    let Striped : Ground → Type 0 = λ one. Appends s2 s3 (ground_text one.striped one.top one.width one.bottom) in
    let all : Begins s5 s6 (legend_text (bottom + 24)) → (asides : List Aside) × Begins s0 s6 (picture_text sessions c.args.executors rows asides) = λ last. (
      asides,
      picture-drawn (Begins s0 s6) sessions c.args.executors rows asides across down bottom marks is_across is_down is_bottom are_marks
          (sixth-begun s0 s1 s2 s3 s4 s5 s6
          (sheet_text across down) (ground_text false 0 across down) (ground_text true 74 across bottom) (texts aside_text asides) (texts mark_text marks) (legend_text (bottom + 24))
          c.in_ok-draw.ensures.written (subst Plain c.ground.ensures c.in_ok-draw-2.ensures.written) (subst Striped c.ground-2.ensures c.in_ok-draw-3.ensures.written) (c.in_ok-draw_all.ensures.written aside_text (λ one. refl)) (c.in_ok-draw_all-2.ensures.written mark_text (λ one. refl)) last),
    ) in
    on_err_weaker c.draw-4.result all c.draw-4.ensures.begun
