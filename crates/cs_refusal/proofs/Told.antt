-- What is told of a refusal.
use Rattle.std.proofs.Common.{◌≡◌, refl, ℕ, Option, Some, None, codes}
use Rattle.cs_value.specs.Tree.{object}
use Rattle.cs_value.specs.Pairs.{put}
use Rattle.cs_parse.specs.Verdict.{Reading, reading_of}
use Rattle.cs_reply.specs.Fields.{pairs_with, number}
use Rattle.cs_txn.specs.Refused.{Cause}
use Rattle.cs_txn.specs.View.{IsReadSo, IsTold}
use Rattle.cs_txn.specs.declared.why.Why.{Why}
use Rattle.cs_txn.specs.declared.why.Why.TheVariants as why
use Rattle.cs_machine.specs.Causes.{cause_fields}
use Rattle.cs_machine.specs.Replies.{reply_tree, not_done}
use Rattle.cs_refusal.specs.Told.{with_index}

read_more : (P Q : Reading → Type 0) (o : Option Reading) → ((r : Reading) → P r → Q r)
    → IsReadSo P o → IsReadSo Q o
read_more P Q None f h = h
read_more P Q (Some r) f h = f r h

-- what follows from a cause is told where the cause is
pub told_more : (P Q : Cause → Type 0) (w : Why) → ((c : Cause) → P c → Q c)
    → IsTold P w → IsTold Q w
told_more P Q (why.Exists id) f h = f _ h
told_more P Q (why.Missing id) f h = f _ h
told_more P Q (why.Revision id expected now) f h = f _ h
told_more P Q why.BadDocument f h = f _ h
told_more P Q why.DeepDocument f h = f _ h
told_more P Q (why.Immutable id name) f h = f _ h
told_more P Q (why.BadPath path at) f h = f _ h
told_more P Q (why.NotNumber id path) f h = f _ h
told_more P Q (why.Overflow id path) f h = f _ h
told_more P Q (why.NotArray id path) f h = f _ h
told_more P Q why.NotDocuments f h = f _ h
told_more P Q why.Diff f h = f _ h
told_more P Q (why.Query fault) f h = read_more _ _ (reading_of fault) (λ r g. f _ g) h
told_more P Q why.FullDocuments f h = f _ h
told_more P Q (why.Dangling from to) f h = f _ h
told_more P Q why.NoMemory f h = h

-- the fields of a refusal are those of its cause, its index and the line
pub whole_reply : (n : ℕ) (index : Option ℕ) (c : Cause)
    → object (put (codes "line") (number n) (with_index index (pairs_with (cause_fields c))))
    ≡ reply_tree n (not_done (record { mutation = index; cause = c }))
whole_reply n None c = refl
whole_reply n (Some index) c = refl
