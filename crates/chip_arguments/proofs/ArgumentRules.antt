-- The definitions to unfold to see the rule of an argument.
use Rattle.std.specs.Prelude.{⊤}
use Rattle.chip_arguments.specs.CommandLine.{against, allow, allowed_keys, always, any_speed, as_image, ascii, code, color, cover, deep, every, files, from, hash, hex, image, json, keys, keys_to, memory, needed_source, never, no_facts, only, output, pbm, png, profile, progress, quirks, quiet, rate, reach, scale, search_steps, seconds, seed, source, sources, states, steps, tap, tape, update, want}

unfoldable pub argument_rules : ⊤
unfolding against allow allowed_keys always any_speed as_image ascii code color cover deep every files from hash hex image json keys keys_to memory needed_source never no_facts only output pbm png profile progress quirks quiet rate reach scale search_steps seconds seed source sources states steps tap tape update want
argument_rules = tt
