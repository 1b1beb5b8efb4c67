use Rattle.std.proofs.Common.{◌≡◌, ℕ, List, ◌++◌, take, Option, None, Some, IfSome, option_map}
use Rattle.chip_files.proofs.reading.read_most.Goals as goal

-- the new bytes are the old bytes and then, if the contents of the reader are known, the first `most` bytes of them
taken : (known : Option (List ℕ)) (most : ℕ) (old new : List ℕ) →
    IfSome (option_map (λ all. take most all) known) (λ some. new ≡ old ++ some) → IfSome known (λ all. new ≡ old ++ take most all)
taken None most old new h = tt
taken (Some all) most old new h = h

pub returns : goal.returns
returns g c =
    let read = rw (c.take.ensures.limit, c.take.ensures.inner, c.from.ensures) at c.in_ok-read_to_end.ensures.bytes in
    taken (g.R.Read.remaining c.args.reader) c.args.most c.args.bytes.now.items c.read_to_end.new.buf.items read
