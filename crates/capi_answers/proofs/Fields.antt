-- Each answer for C has the fields that it must have.
use mathlib.Core.Path.{refl}
use Rattle.capi_answers.specs.Fields.{FieldsOf, RefusedColours}

pub fields : FieldsOf
fields = record {
  read = λ glyph fill records entries pages h v. record { refusal_is = refl; offset_is = refl; records_is = refl; entries_is = refl; pages_is = refl; h_is = refl; v_is = refl; glyph_is = refl; fill_is = refl };
  read-refused = λ number offset. record { refusal_is = refl; offset_is = refl; records_is = refl; entries_is = refl; pages_is = refl; h_is = refl; v_is = refl; glyph_is = refl; fill_is = refl };
  default = refl;
  found = λ records hits. record { refusal_is = refl; offset_is = refl; records_is = refl; hits_is = refl };
  find-refused = λ number offset. record { refusal_is = refl; offset_is = refl; records_is = refl; hits_is = refl };
  respelt = λ len. record { refusal_is = refl; offset_is = refl; len_is = refl };
  respell-refused = λ number offset. record { refusal_is = refl; offset_is = refl; len_is = refl };
  judged = λ records entries pages spelling. record { refusal_is = refl; offset_is = refl; records_is = refl; entries_is = refl; pages_is = refl; spelling_is = refl };
  judge-refused = λ number offset. record { refusal_is = refl; offset_is = refl; records_is = refl; entries_is = refl; pages_is = refl; spelling_is = refl };
  nowhere = record { source_is = refl; place_is = refl; len_is = refl };
  in_stream = λ place len. record { source_is = refl; place_is = refl; len_is = refl };
  in_families = λ place len. record { source_is = refl; place_is = refl; len_is = refl };
}

pub refused_colours : RefusedColours
refused_colours s list rs es r rs' es' c = (refl, refl)
