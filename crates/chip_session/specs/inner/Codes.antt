-- The models of this crate as numbers, which `coded` requires (chosen by this project).
use Rattle.std.specs.Prelude.{ℕ, List}
use Rattle.std.specs.Coded.{Coded, code_by, coded×, coded_ℕ, coded_list}
use Rattle.std.proofs.Common.{refl}
use Rattle.chip_machine.specs.contracts.quirks.Quirks as quirks
use Rattle.chip_machine.specs.declared.quirks.Quirks.{Quirks}
use Rattle.chip_replay.specs.Keys.{Events, coded_events}
use Rattle.chip_session.specs.Settings.{SessionSettings}
use Rattle.chip_session.specs.Kept.{KeptRun}
use Rattle.chip_session.specs.Workbench.{Workbench}

abbrev pub settings_code : Coded SessionSettings
settings_code =
    code_by (ℕ × (List ℕ × (Quirks × ℕ)))
    (coded× coded_ℕ (coded× (coded_list coded_ℕ) (coded× quirks.the_row.coded coded_ℕ)))
    (λ s. (s.rate, (s.tape, (s.quirks, s.spacing))))
    (λ p. record { rate = p.0; tape = p.1.0; quirks = p.1.1.0; spacing = p.1.1.1 })
    (λ _. refl)

-- the parts of a kept run, as nested pairs
abbrev pub RunParts : Type 0
RunParts = SessionSettings × (Events × (List ℕ × (ℕ × ℕ)))

abbrev pub kept_run_code : Coded KeptRun
kept_run_code =
    code_by RunParts (coded× settings_code
    (coded× coded_events (coded× (coded_list coded_ℕ) (coded× coded_ℕ coded_ℕ))))
    (λ kept. (kept.settings, (kept.keys, (kept.last_image, (kept.reach, kept.ran)))))
    (λ p. record {
      settings = p.0;
      keys = p.1.0;
      last_image = p.1.1.0;
      reach = p.1.1.1.0;
      ran = p.1.1.1.1;
    })
    (λ _. refl)

-- the parts of a bench, as nested pairs
abbrev pub Parts : Type 0
Parts = List (List ℕ) × (Events × (SessionSettings × (ℕ × (ℕ × (List ℕ × (ℕ × ℕ))))))

abbrev pub workbench_code : Coded Workbench
workbench_code =
    code_by Parts (coded× (coded_list (coded_list coded_ℕ))
    (coded× coded_events
    (coded× settings_code
    (coded× coded_ℕ (coded× coded_ℕ (coded× (coded_list coded_ℕ) (coded× coded_ℕ coded_ℕ)))))))
    (λ b. (
      b.session.lines,
      (
        b.session.keys,
        (b.session.settings, (b.work.parsed, (b.work.encoded, (b.last_image, (b.reach, b.ran))))),
      ),
    ))
    (λ p. record {
      session = record { lines = p.0; keys = p.1.0; settings = p.1.1.0 };
      work = record { parsed = p.1.1.1.0; encoded = p.1.1.1.1.0 };
      last_image = p.1.1.1.1.1.0;
      reach = p.1.1.1.1.1.1.0;
      ran = p.1.1.1.1.1.1.1;
    })
    (λ _. refl)
