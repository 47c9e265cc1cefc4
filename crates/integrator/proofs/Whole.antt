-- What was read decides the text: it is the whole input, or as much of it as decides the text of every longer one.
use Rattle.std.proofs.Common.{◌≡◌, ℕ, ◌<◌, ◌≤◌, List, [], ◌++◌, length, take, sym, ap, subst, ◌∙◌, arith}
use Rattle.std.proofs.lemmas.List.{append-nil, length-append, length-take-le, take_at}
use Rattle.std.proofs.Math.Decide.{dec_lt}
use Rattle.std.specs.Prelude.{Option, None, Some, Result, Ok, IfSome, OnOk}
use Rattle.std.specs.Io.KnownBytes.{Appends, Consumes, IsAtEnd}
use Rattle.running.specs.Report.{text_of}
use Rattle.running.proofs.Facts.{execution-facts}
use Rattle.integrator.specs.Reading.{Fits, TakesFile}

-- The file holds n bytes of `bytes`, and `rest` is what comes after them.
text_decided : (bytes rest file : List ℕ) (n : ℕ) → length file ≡ 38937 → n ≤ length file → bytes ≡ take n file ++ rest → (n < length file → rest ≡ []) → text_of (take n file) ≡ text_of bytes
text_decided bytes rest file n room fits is end = step (dec_lt n (length file))
  where
    step : Dec (n < length file) → text_of (take n file) ≡ text_of bytes
    step (yes h) = ap text_of (sym (is ∙ ap (λ l. take n file ++ l) (end h) ∙ append-nil (take n file)))
    step (no h) =
        let all : n ≡ 38937 = omega (arith, h) in
        let long : length (take n file) ≡ 38937 = length-take-le n file fits ∙ all in
        let front : take 38937 bytes ≡ take n file = ap (take 38937) is ∙ take_at (take n file) rest 38937 long in
        let more : 38937 ≤ length bytes = let e = ap length is ∙ length-append (take n file) rest in omega (arith, e, long) in
        ap text_of (sym front) ∙ execution-facts.decided bytes more

text_known : (left rest before after : Option (List ℕ)) (file : List ℕ) (n : ℕ) → length file ≡ 38937 → n ≤ length file → Consumes left rest (take n file) → (n < length file → IsAtEnd rest)
    → Appends before after (text_of (take n file)) → IfSome left (λ bytes. Appends before after (text_of bytes))
text_known None rest before after file n room fits taken end written = tt
text_known (Some bytes) None before after file n room fits taken end written = absurd taken
text_known (Some bytes) (Some rest) before after file n room fits taken end written = subst (Appends before after) (text_decided bytes rest file n room fits taken end) written

-- Reading answered n, and the writing did not fail.
pub text_whole : {E F A : Type 0} (left rest before after : Option (List ℕ)) (file : List ℕ) (reading : Result ℕ E) (writing : Result A F) (n : ℕ) (x : A) → reading ≡ Ok n → writing ≡ Ok x
    → length file ≡ 38937 → Fits (length file) reading → TakesFile file left rest reading → OnOk writing (Appends before after (text_of (take n file)))
    → IfSome left (λ bytes. Appends before after (text_of bytes))
text_whole left rest before after file reading writing n x r w room fits taken written =
    let t = subst (TakesFile file left rest) r taken in
    text_known left rest before after file n room (subst (Fits (length file)) r fits) t.0 t.1 (subst (λ v. OnOk v (Appends before after (text_of (take n file)))) w written)
