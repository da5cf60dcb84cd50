-- What ends with the last of its parts.
use Rattle.std.proofs.Common.{◌≡◌, ◌++◌, ◌∙◌, ℕ, List, ap, sym, append_assoc}
use Rattle.tls_codec_bench.specs.Calls.{IsEndOf}

-- three in a row end with the third
pub end_of_three : (x whole a b s part : List ℕ) → whole ≡ x → whole ≡ a ++ (b ++ s) → part ≡ s → IsEndOf x part
end_of_three x whole a b s part same parts last = record {
  front = a ++ b;
  whole = sym same ∙ parts ∙ sym (append_assoc a b s) ∙ ap (λ end. (a ++ b) ++ end) (sym last);
}

-- so do four
pub end_of_four : (x whole a b d s part : List ℕ) → whole ≡ x → whole ≡ a ++ (b ++ (d ++ s)) → part ≡ s → IsEndOf x part
end_of_four x whole a b d s part same parts last =
    end_of_three x whole a (b ++ d) s part same (parts ∙ ap (λ end. a ++ end) (sym (append_assoc b d s))) last
