-- The figures of a case.
use Rattle.std.specs.Prelude.{◌≡◌, ℕ}
use Rattle.tls_codec_bench.specs.declared.figures.Figures.{Figures}

-- `count` bytes are copied, and each column has one figure
pub record IsOfCopy (count : ℕ) (figures : Figures) : Type 0 where
  pub bytes : figures.bytes ≡ count
  pub slice : figures.slice ≡ figures.encode
  pub reader : figures.reader ≡ figures.encode
  pub validate : figures.validate ≡ figures.encode
  pub view : figures.view ≡ figures.encode
