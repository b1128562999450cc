use Rattle.cs_parse.proofs.Readings.{one_reading}
use Rattle.cs_parse.proofs.laws.a_text_is_one_query_at_most.Goals as goal

pub returns : goal.returns
returns c text = one_reading (record {
  one_list = λ s ts us a b. c.a_text_is_read_in_one_way.ensures.one_list s 0 ts us a b;
  not_both = λ s ts at a b. c.a_text_is_read_in_one_way.ensures.not_both s 0 at ts a b;
  one_place = λ s p q a b. c.a_text_is_read_in_one_way.ensures.one_place s 0 p q a b;
  one_expression = c.one_expression.ensures;
}) text
