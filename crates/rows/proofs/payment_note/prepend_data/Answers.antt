use Rattle.std.proofs.Common.{◌≡◌, ℕ, List, [], ◌++◌, codes, take, ap, ◌∙◌}
use Rattle.std.specs.Fmt.{decimal}
use Rattle.rows.proofs.Fitting.{cut_more}
use Rattle.rows.proofs.payment_note.prepend_data.Goals as goal

pub returns : goal.returns
returns c =
    let a0 : List ℕ = [] in
    let s0 : c.new-data.result ≡ take 500 a0 = c.new-data.ensures in
    let s1 = cut_more 500 c.new-data.result c.push_number.new.text a0 (decimal c.args.customer.c_id) s0 c.push_number.ensures in
    let a1 = a0 ++ decimal c.args.customer.c_id in
    let s2 = cut_more 500 c.push_number.new.text c.push_fitting.new.self a1 (codes " ") s1 c.push_fitting.ensures in
    let a2 = a1 ++ codes " " in
    let s3 = cut_more 500 c.push_fitting.new.self c.push_number-2.new.text a2 (decimal c.args.customer.d_id) s2 c.push_number-2.ensures in
    let a3 = a2 ++ decimal c.args.customer.d_id in
    let s4 = cut_more 500 c.push_number-2.new.text c.push_fitting-2.new.self a3 (codes " ") s3 c.push_fitting-2.ensures in
    let a4 = a3 ++ codes " " in
    let s5 = cut_more 500 c.push_fitting-2.new.self c.push_number-3.new.text a4 (decimal c.args.customer.w_id) s4 c.push_number-3.ensures in
    let a5 = a4 ++ decimal c.args.customer.w_id in
    let s6 = cut_more 500 c.push_number-3.new.text c.push_fitting-3.new.self a5 (codes " ") s5 c.push_fitting-3.ensures in
    let a6 = a5 ++ codes " " in
    let s7 = cut_more 500 c.push_fitting-3.new.self c.push_number-4.new.text a6 (decimal c.args.district.d_id) s6 c.push_number-4.ensures in
    let a7 = a6 ++ decimal c.args.district.d_id in
    let s8 = cut_more 500 c.push_number-4.new.text c.push_fitting-4.new.self a7 (codes " ") s7 c.push_fitting-4.ensures in
    let a8 = a7 ++ codes " " in
    let s9 = cut_more 500 c.push_fitting-4.new.self c.push_number-5.new.text a8 (decimal c.args.district.w_id) s8 c.push_number-5.ensures in
    let a9 = a8 ++ decimal c.args.district.w_id in
    let s10 = cut_more 500 c.push_number-5.new.text c.push_fitting-5.new.self a9 (codes " ") s9 c.push_fitting-5.ensures in
    let a10 = a9 ++ codes " " in
    let s11 = cut_more 500 c.push_fitting-5.new.self c.push_number-6.new.text a10 (decimal c.args.amount) s10 c.push_number-6.ensures in
    let a11 = a10 ++ decimal c.args.amount in
    let s12 = cut_more 500 c.push_number-6.new.text c.push_fitting-6.new.self a11 (codes "|") s11 c.push_fitting-6.ensures in
    let a12 = a11 ++ codes "|" in
    cut_more 500 c.push_fitting-6.new.self c.push_fitting-7.new.self a12 c.args.old_data.now s12 (c.push_fitting-7.ensures ∙ ap (λ l. take 500 (c.push_fitting-6.new.self ++ l)) c.as_str.ensures.bytes)
