-- The parts of what a struct stands for.
use Rattle.tls_codec_grammar.specs.Tree.{Empty, Join, Tree}

-- those of two or three parts in a row
abbrev pub first_of : Tree → Tree
first_of (Join a _) = a
first_of _ = Empty

abbrev pub second_of : Tree → Tree
second_of (Join _ (Join b _)) = b
second_of _ = Empty

abbrev pub third_of : Tree → Tree
third_of (Join _ (Join _ (Join c _))) = c
third_of _ = Empty

-- what is after the first part
abbrev pub rest_of : Tree → Tree
rest_of (Join _ b) = b
rest_of _ = Empty
