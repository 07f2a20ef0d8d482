-- The contents of a log, and when it is legal.
use Rattle.std.specs.Prelude.{◌≡◌, List, map}
use Rattle.schema.specs.Database.{Database}
use Rattle.requests.specs.declared.request.Request.{Request}
use Rattle.requests.specs.declared.reply.Reply.{Reply}
use Rattle.machine.specs.Machine.{replies, tables_after}
use Rattle.commit_log.specs.declared.entry.Entry.{Entry}

-- the requests, in log order
abbrev pub requests_of : List Entry → List Request
requests_of entries = map (λ entry. entry.request) entries

-- the replies, in log order
abbrev pub replies_of : List Entry → List Reply
replies_of entries = map (λ entry. entry.reply) entries

-- The replies are those of a machine that carries out the log's requests one at a time, in log order, from the opening
-- tables, and `tables` are the machine's last tables.
pub record IsLegal (opening : Database) (entries : List Entry) (tables : Database) : Type 0 where
  pub replied : replies_of entries ≡ replies opening (requests_of entries)
  pub left : tables ≡ tables_after opening (requests_of entries)
