-- What contracts see of an answer that is kept in shares. This project's profile.
use Rattle.std.specs.Prelude.{◌≡◌, List, ◌∷◌}
use Rattle.cs_view.specs.declared.key.Key.{Key}
use Rattle.cs_hits.specs.Shares.{shares_looked}
use Rattle.cs_kept.specs.declared.mapped.Mapped.{Mapped}

-- the keys of a mapped query: its own, and those that finding the shares looked up
abbrev pub mapped_keys : Mapped → List Key
mapped_keys m = m.own ∷ shares_looked m.shares.items

-- all but the shares is as it was
pub record KeepsAllButShares (old new : Mapped) : Type 0 where
  pub query : new.query ≡ old.query
  pub params : new.params ≡ old.params
  pub last : new.last ≡ old.last
  pub own : new.own ≡ old.own
  pub codes : new.codes ≡ old.codes

-- all but the last answer is as it was
pub record KeepsAllButLast (old new : Mapped) : Type 0 where
  pub query : new.query ≡ old.query
  pub params : new.params ≡ old.params
  pub own : new.own ≡ old.own
  pub shares : new.shares ≡ old.shares
  pub codes : new.codes ≡ old.codes

-- all but the codes is as it was
pub record KeepsAllButCodes (old new : Mapped) : Type 0 where
  pub query : new.query ≡ old.query
  pub params : new.params ≡ old.params
  pub last : new.last ≡ old.last
  pub own : new.own ≡ old.own
  pub shares : new.shares ≡ old.shares
