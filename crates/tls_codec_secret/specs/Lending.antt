-- What a vector ends as, if a `&mut` to an element is returned.
use Rattle.std.specs.Prelude.{ℕ}
use Rattle.std.specs.Borrow.{Fml, Lends, MutBor, RattleType}
use Rattle.tls_codec_secret.specs.Contents.{with_element}
use Rattle.tls_codec_secret.specs.declared.list.SecretTlsVec.{SecretTlsVec}
use Rattle.tls_codec_secret.specs.contracts.list.SecretTlsVec.{the_row}

module _ (F T : RattleType) (v : MutBor (SecretTlsVec F.Denot T.Denot)) where
  -- once the borrow r ends, the place has the last value written through r, and each other one what it had
  abbrev pub LendsElement : ℕ → MutBor T.Denot → Fml
  LendsElement i r = Lends (the_row F T) T v r (with_element v.now i)
