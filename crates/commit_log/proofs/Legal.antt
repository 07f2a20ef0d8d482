-- A transaction more leaves a log legal.
use Rattle.std.proofs.Common.{◌≡◌, List, [], ◌∷◌, ◌++◌, map, refl, sym, ap, ◌∙◌}
use Rattle.schema.specs.Database.{Database}
use Rattle.requests.specs.declared.request.Request.{Request}
use Rattle.requests.specs.declared.reply.Reply.{Reply}
use Rattle.machine.specs.Machine.{transaction, replies, tables_after}
use Rattle.commit_log.specs.declared.entry.Entry.{Entry}
use Rattle.commit_log.specs.Log.{IsLegal, requests_of}

pub replies-append : (t : Database) (requests : List Request) (request : Request)
    → replies t (requests ++ request ∷ []) ≡ replies t requests ++ (transaction (tables_after t requests) request).reply ∷ []
replies-append t [] request = refl
replies-append t (first ∷ requests) request = ap (λ l. (transaction t first).reply ∷ l) (replies-append (transaction t first).tables requests request)

pub tables_after-append : (t : Database) (requests : List Request) (request : Request)
    → tables_after t (requests ++ request ∷ []) ≡ (transaction (tables_after t requests) request).tables
tables_after-append t [] request = refl
tables_after-append t (first ∷ requests) request = tables_after-append (transaction t first).tables requests request

pub map_push : {X Y : Type 0} (f : X → Y) (xs : List X) (x : X) → map f (xs ++ x ∷ []) ≡ map f xs ++ f x ∷ []
map_push f [] x = refl
map_push f (y ∷ ys) x = ap (λ l. f y ∷ l) (map_push f ys x)

pub legal-append : (opening : Database) (entries : List Entry) (tables new_tables : Database) (entry : Entry) → IsLegal opening entries tables
    → entry.reply ≡ (transaction tables entry.request).reply → new_tables ≡ (transaction tables entry.request).tables
    → IsLegal opening (entries ++ entry ∷ []) new_tables
legal-append opening entries tables new_tables entry h reply_is tables_is =
    let asked = map_push (λ (e : Entry). e.request) entries entry in
    let request = entry.request in
    record {
      replied =
          map_push (λ (e : Entry). e.reply) entries entry
          ∙ ap (λ l. l ++ entry.reply ∷ []) h.replied
          ∙ ap (λ (r : Reply). replies opening (requests_of entries) ++ r ∷ []) (reply_is ∙ ap (λ t. (transaction t request).reply) h.left)
          ∙ sym (replies-append opening (requests_of entries) request)
          ∙ ap (replies opening) (sym asked);
      left =
          tables_is ∙ ap (λ t. (transaction t request).tables) h.left
          ∙ sym (tables_after-append opening (requests_of entries) request)
          ∙ ap (tables_after opening) (sym asked);
    }
