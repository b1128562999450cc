-- What is told of a refusal.
use Rattle.std.proofs.Common.{Option, Some, None}
use Rattle.cs_parse.specs.Verdict.{Reading, reading_of}
use Rattle.cs_txn.specs.Refused.{Cause}
use Rattle.cs_txn.specs.View.{IsReadSo, IsTold}
use Rattle.cs_txn.specs.declared.why.Why.{Why}
use Rattle.cs_txn.specs.declared.why.Why.TheVariants as why
use Rattle.cs_refusal.specs.Told.{HasCause}

-- a cause of which two things are told
pub record Both (P Q : Cause → Type 0) : Type 0 where
  pub cause : Cause
  pub one : P cause
  pub other : Q cause

both : (P Q : Cause → Type 0) (c : Cause) → P c → Q c → Both P Q
both P Q c h g = record { cause = c; one = h; other = g }

both_read : (P Q : Cause → Type 0) (f : Reading → Cause) (o : Option Reading)
    → IsReadSo (λ r. P (f r)) o → IsReadSo (λ r. Q (f r)) o → Both P Q
both_read P Q f None h g = absurd h
both_read P Q f (Some r) h g = both P Q (f r) h g

pub told_both : (P Q : Cause → Type 0) (w : Why) → IsTold P w → IsTold Q w → HasCause w → Both P Q
told_both P Q (why.Exists id) h g n = both P Q _ h g
told_both P Q (why.Missing id) h g n = both P Q _ h g
told_both P Q (why.Revision id expected now) h g n = both P Q _ h g
told_both P Q why.BadDocument h g n = both P Q _ h g
told_both P Q why.DeepDocument h g n = both P Q _ h g
told_both P Q (why.Immutable id name) h g n = both P Q _ h g
told_both P Q (why.BadPath path at) h g n = both P Q _ h g
told_both P Q (why.NotNumber id path) h g n = both P Q _ h g
told_both P Q (why.Overflow id path) h g n = both P Q _ h g
told_both P Q (why.NotArray id path) h g n = both P Q _ h g
told_both P Q why.NotDocuments h g n = both P Q _ h g
told_both P Q why.Diff h g n = both P Q _ h g
told_both P Q (why.Query fault) h g n = both_read P Q _ (reading_of fault) h g
told_both P Q why.FullDocuments h g n = both P Q _ h g
told_both P Q (why.Dangling from to) h g n = both P Q _ h g
told_both P Q why.NoMemory h g n = absurd n
