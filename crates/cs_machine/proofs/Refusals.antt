-- The lines that say why a transaction is refused, cause by cause, and at a limit.
use Rattle.std.proofs.Common.{◌≡◌, Some, None, codes, refl}
use Rattle.std.specs.Fmt.{digits}
use Rattle.json.specs.Print.{escape_byte}
use Rattle.cs_json.specs.Text.{json_text}
use Rattle.cs_syntax.specs.Faults.{arity}
use Rattle.cs_parse.specs.Verdict.{bad_token, too_deep, faulty}
use Rattle.cs_reply.specs.Refusal.{full_subscriptions}
use Rattle.cs_reply.specs.Reply.{refused}
use Rattle.cs_txn.specs.Refused.{deep_document, no_query, full_documents}
use Rattle.cs_machine.specs.Replies.{reply_line, said, not_done}

too_deep_document :
    reply_line (3, not_done (record { mutation = Some 1; cause = deep_document }))
    ≡ codes "{\"error\":\"deep-document\",\"line\":3,\"mutation\":1}\n"
unfolding json_text escape_byte digits
too_deep_document = refl

no_token :
    reply_line (3, not_done (record { mutation = Some 0; cause = no_query (bad_token 7) }))
    ≡ codes "{\"at\":7,\"error\":\"bad-token\",\"line\":3,\"mutation\":0}\n"
unfolding json_text escape_byte digits
no_token = refl

too_many_brackets :
    reply_line (3, not_done (record { mutation = Some 0; cause = no_query too_deep }))
    ≡ codes "{\"error\":\"deep-query\",\"line\":3,\"mutation\":0}\n"
unfolding json_text escape_byte digits
too_many_brackets = refl

wrong_arity :
    reply_line
    (3, not_done (record { mutation = Some 0; cause = no_query (faulty (arity (codes "count"))) }))
    ≡ codes "{\"error\":\"arity\",\"line\":3,\"mutation\":0,\"name\":\"count\"}\n"
unfolding json_text escape_byte digits
wrong_arity = refl

too_many_documents :
    reply_line (3, not_done (record { mutation = None; cause = full_documents }))
    ≡ codes "{\"error\":\"full-documents\",\"limit\":1048576,\"line\":3}\n"
unfolding json_text escape_byte digits
too_many_documents = refl

too_many_subscriptions :
    reply_line (1025, said (refused (full_subscriptions 1024)))
    ≡ codes "{\"error\":\"full-subscriptions\",\"limit\":1024,\"line\":1025}\n"
unfolding json_text escape_byte digits
too_many_subscriptions = refl
