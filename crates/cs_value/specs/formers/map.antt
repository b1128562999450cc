pub mod OrderedMap
