use Rattle.std.proofs.Common.{◌≡◌, List, length, vec_len, sym, ap, ◌∙◌, subst, arith}
use Rattle.commit_log.specs.declared.entry.Entry.{Entry}
use Rattle.commit_log.specs.Kept.{IsBookOf, book_names}
use Rattle.commit_log.specs.LogTables.{table_of}
use Rattle.commit_log.proofs.Opening.{LanesFrom, AreNew, lanes_named, book_new, made_is_new, one_session_more}
use Rattle.commit_log.proofs.log_book.LogBook.open.Goals as goal

pub loop-lane-init : goal.loop-lane-init
loop-lane-init g c =
    let seats = c.seats.inside in
    let is = c.seats.view_is in
    let none = ap length c.new-sessions.ensures.items in
    let many = c.seats.invariant.many in
    let long = seats.lanes.ok.0 in
    let empty = c.new-sessions.ensures.len in
    let named = lanes_named seats.length seats.mine.items seats.lanes.items c.seats.invariant g.J.LogNames.length g.J.LogNames.mine g.J.LogNames.asks
    (c.requires.length ∙ sym (ap (λ s. s.length) is))
    (λ k h. c.requires.mine k h ∙ sym (ap (λ s. table_of s.mine k) is))
    (λ k h. c.requires.asks k h ∙ sym (ap (λ s. table_of s.asks k) is)) in
    record {
      left = subst (λ n. LanesFrom g.J.LogNames.length g.J.LogNames.mine g.J.LogNames.asks n seats.lanes.items) (sym empty) named;
      done = λ k h. absurd (omega arith);
      count = omega arith;
    }

pub loop-lane-preserved : goal.loop-lane-preserved
loop-lane-preserved g c =
    let loop = c.loop-lane in
    let lane = c.in-Some.lane in
    let rest = c.pop_front.new.self in
    let named = subst (LanesFrom g.J.LogNames.length g.J.LogNames.mine g.J.LogNames.asks (vec_len loop.sessions)) c.in-Some.ensures.items loop.invariant.left in
    let session = c.len-session.result in
    let is = c.len-session.ensures in
    let pushed = c.in_ok-push.ensures in
    let long = loop.sessions.ok.0 in
    let popped = c.in-Some.ensures.cases in
    let count = loop.invariant.count in
    record {
      left = subst (λ n. LanesFrom g.J.LogNames.length g.J.LogNames.mine g.J.LogNames.asks n rest.items) (sym pushed.len) named.1;
      done = subst AreNew (sym pushed.items) (one_session_more loop.sessions.items session _ loop.invariant.done (omega arith)
          (made_is_new _ _ _ session lane named.0));
      count = omega (arith, pushed.len);
    }

pub invariant_of-book : goal.invariant_of-book
invariant_of-book g c =
    let seats = c.seats.inside in
    let is = c.seats.view_is in
    let same = c.requires.length ∙ sym (ap (λ s. s.length) is) in
    let named = lanes_named seats.length seats.mine.items seats.lanes.items c.seats.invariant g.J.LogNames.length g.J.LogNames.mine g.J.LogNames.asks same
    (λ k h. c.requires.mine k h ∙ sym (ap (λ s. table_of s.mine k) is))
    (λ k h. c.requires.asks k h ∙ sym (ap (λ s. table_of s.asks k) is)) in
    let names = book_names g.J.LogNames.most g.J.LogNames.length g.J.LogNames.mine in
    let limit : c.get.result ≡ g.J.LogNames.most = c.get.ensures.value ∙ ap (λ s. s.most) is ∙ sym c.requires.most in
    subst (λ (es : List Entry). IsBookOf names c.get.result es seats.length seats.mine.items) (sym c.new.ensures.items)
    (book_new seats.length seats.mine.items seats.lanes.items c.seats.invariant names c.get.result g.J.LogNames.asks limit (omega (arith, c.get.ensures)) same named)
