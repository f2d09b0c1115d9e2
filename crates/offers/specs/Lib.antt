-- Inner: the tables of keys and representatives, offers, the users of a head, the table of offers, the next step by it.
pub mod Inner
